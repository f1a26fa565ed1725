-- `lanes::lanes::rows_low` meets its contract. The loop keeps up that the first i rows are written. Assumes nothing.
use Rattle.taps.specs.Kernel.{low_rows}
use Rattle.taps.proofs.Loops.{FillingRows}
use Rattle.lanes.proofs.lanes.rows_low.Given as goal

abbrev pub invariant-loop-i : goal.invariant-loop-i
invariant-loop-i g l = FillingRows l.initial.out l.at l.stride l.w l.i (low_rows l.p l.l g.row.APART l.b l.line) l.out
