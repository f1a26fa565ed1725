-- `lanes::lanes::rows_four` meets its contract. The loop keeps up that the first i rows are written. Assumes nothing.
use Rattle.taps.specs.Kernel.{eighths}
use Rattle.taps.proofs.Loops.{FillingRows}
use Rattle.lanes.proofs.lanes.rows_four.Given as goal

abbrev pub invariant-loop-i : goal.invariant-loop-i
invariant-loop-i l = FillingRows l.initial.out l.at l.stride 4 l.i (eighths l.l) l.out
