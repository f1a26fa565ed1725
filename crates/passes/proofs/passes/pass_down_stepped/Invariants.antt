-- `passes::passes::pass_down_stepped` meets its contract. The loop keeps up that the first r rows are painted. Assumes nothing.
use Rattle.taps.specs.Taps.{tap}
use Rattle.taps.proofs.Loops.{Painting}
use Rattle.passes.specs.Lifted.{written, down_at}
use Rattle.passes.proofs.passes.pass_down_stepped.Given as goal

abbrev pub invariant-loop-r : goal.invariant-loop-r
invariant-loop-r l =
    Painting l.initial.out l.stride l.area.width l.r
    (written l.mean l.initial.out l.stride (down_at l.area.max (tap l.filter) l.room l.y.start l.y.step)) l.out
