-- `lanes::lanes::rows_wide` meets its contract. The loop keeps up that the first i rows are written. Assumes nothing.
use Rattle.taps.specs.Kernel.{ran_rows}
use Rattle.taps.proofs.Loops.{rows_none, rows_turn}
use Rattle.lanes.proofs.lanes.rows_wide.Goals as goal

pub loop-i-init : goal.loop-i-init
loop-i-init g c = rows_none _ _ _ _ _

pub loop-i-preserved : goal.loop-i-preserved
unfolding ran_rows
loop-i-preserved g c = rows_turn c.loop-i.invariant c.row_wide.ensures
