-- `lanes::lanes::rows_four` meets its contract. The loop keeps up that the first i rows are written. Assumes nothing.
use Rattle.taps.specs.Kernel.{eighths}
use Rattle.taps.proofs.Loops.{rows_none, rows_turn}
use Rattle.lanes.proofs.lanes.rows_four.Goals as goal

pub loop-i-init : goal.loop-i-init
loop-i-init c = rows_none _ _ _ _ _

pub loop-i-preserved : goal.loop-i-preserved
unfolding eighths
loop-i-preserved c = rows_turn c.loop-i.invariant c.four_moved.ensures
