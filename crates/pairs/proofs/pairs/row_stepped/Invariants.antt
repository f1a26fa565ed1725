-- `pairs::pairs::row_stepped` meets its contract. The loop keeps up that the first c results are written. Assumes nothing.
use Rattle.taps.proofs.Loops.{Filling}
use Rattle.pairs.specs.Pair.{pair_stepped}
use Rattle.pairs.proofs.pairs.row_stepped.Given as goal

abbrev pub invariant-loop-c : goal.invariant-loop-c
invariant-loop-c l = Filling l.initial.out l.at l.c (pair_stepped l.max l.l l.d l.phase.sixteenths l.step) l.out
