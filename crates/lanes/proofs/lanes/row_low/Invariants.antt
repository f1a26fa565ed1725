-- `lanes::lanes::row_low` meets its contract. The loop keeps up that the first results are written, eight at a time. Assumes nothing.
use Prim.Native.Nat.{◌*◌}
use Rattle.taps.specs.Kernel.{low_ran}
use Rattle.taps.proofs.Loops.{Filling}
use Rattle.lanes.proofs.lanes.row_low.Given as goal

abbrev pub invariant-loop-i : goal.invariant-loop-i
invariant-loop-i g l = Filling l.initial.out l.at (8 * l.i) (low_ran l.p l.l g.row.APART l.b) l.out
