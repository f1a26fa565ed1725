-- `lanes::lanes::row_wide` meets its contract. The loop keeps up that the first c results are written. Assumes nothing.
use Rattle.taps.specs.Kernel.{ran}
use Rattle.taps.proofs.Loops.{fill_none, fill_turn}
use Rattle.lanes.proofs.lanes.row_wide.Goals as goal

pub loop-c-init : goal.loop-c-init
loop-c-init g c = fill_none _ _ _

pub loop-c-preserved : goal.loop-c-preserved
unfolding ran
loop-c-preserved g c = fill_turn _ c.loop-c.invariant c.wide.ensures
