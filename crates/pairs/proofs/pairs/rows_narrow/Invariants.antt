-- `pairs::pairs::rows_narrow` meets its contract. The loop keeps up that the first i rows are written. Assumes nothing.
use Rattle.taps.proofs.Loops.{FillingRows}
use Rattle.pairs.specs.Pair.{low_pair_rows}
use Rattle.pairs.proofs.pairs.rows_narrow.Given as goal

abbrev pub invariant-loop-i : goal.invariant-loop-i
invariant-loop-i g l = FillingRows l.initial.out l.at l.stride g.row.W l.i (low_pair_rows l.p.sixteenths l.l l.n l.b l.line) l.out
