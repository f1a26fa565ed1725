-- `taps::plain::run_copied` meets its contract. The loop keeps up that the first k samples are written. Assumes nothing.
use Rattle.taps.specs.Kernel.{onward}
use Rattle.taps.proofs.Loops.{Filling}
use Rattle.taps.proofs.plain.run_copied.Given as goal

abbrev pub invariant-loop-k : goal.invariant-loop-k
invariant-loop-k l = Filling l.initial.line l.at l.k (onward l.row l.s) l.line
