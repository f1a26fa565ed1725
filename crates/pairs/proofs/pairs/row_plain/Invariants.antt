-- `pairs::pairs::row_plain` meets its contract. The loop keeps up that the first c results are written. Assumes nothing.
use Rattle.taps.proofs.Loops.{Filling}
use Rattle.pairs.specs.Pair.{pair_ran}
use Rattle.pairs.proofs.pairs.row_plain.Given as goal

abbrev pub invariant-loop-c : goal.invariant-loop-c
invariant-loop-c l = Filling l.initial.out l.at l.c (pair_ran l.max l.p.sixteenths l.l l.n l.b) l.out
