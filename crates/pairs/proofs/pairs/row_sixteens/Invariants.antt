-- `pairs::pairs::row_sixteens` meets its contract. The loop keeps up that the results so far are written, or all of them. Assumes nothing.
use Prim.Native.Nat.{◌-◌, min}
use Rattle.taps.proofs.Loops.{Filling}
use Rattle.pairs.specs.Pair.{low_pairs}
use Rattle.pairs.proofs.pairs.row_sixteens.Given as goal

abbrev pub invariant-loop-c : goal.invariant-loop-c
invariant-loop-c l = Filling l.initial.out l.at (min l.c l.w) (low_pairs l.p.sixteenths l.l l.n l.b) l.out

abbrev pub decreases-loop-c : goal.decreases-loop-c
decreases-loop-c l = l.w - l.c
