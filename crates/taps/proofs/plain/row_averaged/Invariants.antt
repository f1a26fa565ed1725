-- `taps::plain::row_averaged` meets its contract. The loop keeps up that the first c means are written. Assumes nothing.
use Rattle.taps.specs.Kernel.{mean_of, onward}
use Rattle.taps.proofs.Loops.{Filling}
use Rattle.taps.proofs.plain.row_averaged.Given as goal

abbrev pub invariant-loop-c : goal.invariant-loop-c
invariant-loop-c l = Filling l.initial.out l.at l.c (mean_of l.initial.out l.at (onward l.l l.b)) l.out
