-- `taps::plain::row_clipped` meets its contract. The loop keeps up that the first c samples are written. Assumes nothing.
use Rattle.taps.specs.Kernel.{clipped}
use Rattle.taps.proofs.Loops.{Filling}
use Rattle.taps.proofs.plain.row_clipped.Given as goal

abbrev pub invariant-loop-c : goal.invariant-loop-c
invariant-loop-c l = Filling l.initial.out l.at l.c (clipped l.max l.l l.b) l.out
