-- `lanes::lanes::rows_are_low` meets its contract. The loop keeps up that no sample so far is above v. Assumes nothing.
use Rattle.taps.specs.Kernel.{UpToRows}
use Rattle.lanes.proofs.lanes.rows_are_low.Given as goal

abbrev pub invariant-loop-i : goal.invariant-loop-i
invariant-loop-i l = UpToRows l.v l.l l.b l.line l.m l.i
