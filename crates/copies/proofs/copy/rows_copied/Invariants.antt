-- `copies::copy::rows_copied` meets its contract. The loop keeps up that the first i rows are painted. Assumes nothing.
use Rattle.copies.specs.Copy.{clipped_rows}
use Rattle.taps.proofs.Loops.{Painting}
use Rattle.copies.proofs.copy.rows_copied.Given as goal

abbrev pub invariant-loop-i : goal.invariant-loop-i
invariant-loop-i l = Painting l.initial.out l.rs l.w l.i (clipped_rows l.max l.l l.at l.stride) l.out
