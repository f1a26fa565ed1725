-- `pair_passes::both::down_stepped` meets its contract. The loop keeps up that the first r rows are painted. Assumes nothing.
use Rattle.taps.proofs.Loops.{Painting}
use Rattle.passes.specs.Lifted.{written}
use Rattle.pair_passes.specs.PairDown.{pair_down}
use Rattle.pair_passes.proofs.both.down_stepped.Given as goal

abbrev pub invariant-loop-r : goal.invariant-loop-r
invariant-loop-r l =
    Painting l.initial.out l.stride l.area.width l.r (written l.mean l.initial.out l.stride (pair_down l.area.max l.room l.y.start l.y.step)) l.out
