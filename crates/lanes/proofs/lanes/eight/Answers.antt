-- `lanes::lanes::eight` meets its contract: eight writes of eight results. Assumes nothing.
use Rattle.taps.specs.Kernel.{low_ran}
use Rattle.lanes.proofs.Eight.{eight_are, low_first}
use Rattle.lanes.proofs.lanes.eight.Goals as goal

pub returns : goal.returns
unfolding low_ran
returns g c =
    let a = c.args in
    eight_are a.out.now a.at (low_ran a.p a.l.now g.row.APART a.s) (low_first a.p a.l.now g.row.APART a.s c.window-a.ensures) c.window-b.ensures
    c.window-c.ensures
    c.window-d.ensures
    c.window-e.ensures
    c.window-f.ensures
    c.window-g.ensures
    c.window-h.ensures
