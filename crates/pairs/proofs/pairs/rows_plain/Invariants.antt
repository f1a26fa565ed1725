-- `pairs::pairs::rows_plain` meets its contract. The loop keeps up that the first i rows are written. Assumes nothing.
use Rattle.taps.proofs.Loops.{FillingRows}
use Rattle.pairs.specs.Pair.{pair_rows}
use Rattle.pairs.proofs.pairs.rows_plain.Given as goal

abbrev pub invariant-loop-i : goal.invariant-loop-i
invariant-loop-i l = FillingRows l.initial.out l.at l.stride l.w l.i (pair_rows l.max l.p.sixteenths l.l l.n l.b l.line) l.out
