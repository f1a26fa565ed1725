-- `lanes::lanes::rows_wide` meets its contract. The loop keeps up that the first i rows are written. Assumes nothing.
use Rattle.taps.specs.Taps.{tap}
use Rattle.taps.specs.Kernel.{ran_rows}
use Rattle.taps.proofs.Loops.{FillingRows}
use Rattle.lanes.proofs.lanes.rows_wide.Given as goal

abbrev pub invariant-loop-i : goal.invariant-loop-i
invariant-loop-i g l = FillingRows l.initial.out l.at l.stride l.w l.i (ran_rows l.max (tap l.p.filter l.p.phase) l.l g.row.APART l.b l.line) l.out
