-- `kernels::rows::row_stepped` meets its contract. The loop keeps up that the first c results are written. Assumes nothing.
use Rattle.taps.specs.Taps.{tap}
use Rattle.taps.specs.Kernel.{stepped}
use Rattle.taps.proofs.Loops.{Filling}
use Rattle.kernels.proofs.rows.row_stepped.Given as goal

abbrev pub invariant-loop-c : goal.invariant-loop-c
invariant-loop-c l = Filling l.initial.out l.at l.c (stepped l.max (tap l.filter) l.l l.d l.phase l.step) l.out
