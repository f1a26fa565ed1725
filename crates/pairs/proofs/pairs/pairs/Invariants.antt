-- `pairs::pairs::pairs` meets its contract. The first loop keeps up that the first k results are there, the second that they are written. Assumes
-- nothing.
use Rattle.taps.proofs.Loops.{Filling}
use Rattle.lanes.proofs.Made.{Made}
use Rattle.pairs.specs.Pair.{low_pairs}
use Rattle.pairs.proofs.pairs.pairs.Given as goal

abbrev pub invariant-loop-k : goal.invariant-loop-k
invariant-loop-k g l = Made g.row.MANY l.k (low_pairs l.p.sixteenths l.l l.n l.s) l.results

abbrev pub invariant-loop-k-2 : goal.invariant-loop-k-2
invariant-loop-k-2 g l = Filling l.initial.out l.at l.k (low_pairs l.fn.p.sixteenths l.l l.n l.s) l.out
