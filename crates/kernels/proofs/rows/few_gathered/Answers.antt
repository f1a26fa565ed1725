-- `kernels::rows::few_gathered` meets its contract: the line has the held samples. Assumes nothing.
use mathlib.Core.Path.{◌≡◌, ◌∙◌}
use Prim.Native.Nat.{◌%◌}
use Rattle.base.proofs.Painted.{fill_same}
use Rattle.taps.specs.Taps.{tap}
use Rattle.kernels.proofs.Lines.{line_is}
use Rattle.kernels.proofs.rows.few_gathered.Goals as goal

pub returns : goal.returns
returns c =
    let a = c.args in
    let e : a.p.phase ≡ a.start % 16 = c.requires.start_bound.1 in
    rw e at c.row_line.ensures
    ∙ fill_same _ _ _ _ _
    (line_is a.max (tap a.p.filter) a.row.now _ a.last a.start a.step a.w 0 c.gather.ensures.is)
