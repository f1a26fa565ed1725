-- `taps::plain::repeated` meets its contract. The loop keeps up that the first c are written. Assumes nothing.
use Rattle.taps.specs.Kernel.{alike}
use Rattle.taps.proofs.Loops.{Filling}
use Rattle.taps.proofs.plain.repeated.Given as goal

abbrev pub invariant-loop-c : goal.invariant-loop-c
invariant-loop-c l = Filling l.initial.out l.at l.c (alike l.x) l.out
