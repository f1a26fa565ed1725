-- `pairs::pairs::rows_sixteens` meets its contract. The loop keeps up that the first i rows are written. Assumes nothing.
use Rattle.taps.proofs.Loops.{rows_none, rows_turn}
use Rattle.pairs.specs.Pair.{low_pair_rows}
use Rattle.pairs.proofs.pairs.rows_sixteens.Goals as goal

pub loop-i-init : goal.loop-i-init
loop-i-init c = rows_none _ _ _ _ _

pub loop-i-preserved : goal.loop-i-preserved
unfolding low_pair_rows
loop-i-preserved c = rows_turn c.loop-i.invariant c.row_sixteens.ensures
