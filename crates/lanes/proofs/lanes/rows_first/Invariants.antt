-- `lanes::lanes::rows_first` meets its contract. The loop keeps up that the first i rows are written. Assumes nothing.
use Rattle.taps.specs.Kernel.{eighths}
use Rattle.taps.proofs.Loops.{FillingRows}
use Rattle.lanes.proofs.lanes.rows_first.Given as goal

abbrev pub invariant-loop-i : goal.invariant-loop-i
invariant-loop-i l = FillingRows l.initial.out l.at l.stride l.w l.i (eighths l.l) l.out
