-- `lanes::lanes::rows_low` meets its contract. The loop keeps up that the first i rows are written. Assumes nothing.
use Rattle.taps.specs.Kernel.{low_rows}
use Rattle.taps.proofs.Loops.{rows_none, rows_turn}
use Rattle.lanes.proofs.lanes.rows_low.Goals as goal

pub loop-i-init : goal.loop-i-init
loop-i-init g c = rows_none _ _ _ _ _

pub loop-i-preserved : goal.loop-i-preserved
unfolding low_rows
loop-i-preserved g c = rows_turn c.loop-i.invariant c.row_low.ensures
