-- `passes::passes::rows_averaged` meets its contract. The loop keeps up that the first r rows are painted. Assumes nothing.
use Rattle.taps.proofs.Loops.{Painting}
use Rattle.passes.specs.Lifted.{mean_with, room_at}
use Rattle.passes.proofs.passes.rows_averaged.Given as goal

abbrev pub invariant-loop-r : goal.invariant-loop-r
invariant-loop-r l = Painting l.initial.out l.stride l.w l.r (mean_with l.initial.out l.stride (room_at l.room)) l.out
