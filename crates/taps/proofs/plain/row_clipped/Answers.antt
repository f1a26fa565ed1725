-- `taps::plain::row_clipped` meets its contract. The loop keeps up that the first c samples are written. Assumes nothing.
use Rattle.taps.specs.Kernel.{clipped}
use Rattle.taps.proofs.Loops.{fill_none, fill_turn}
use Rattle.taps.proofs.plain.row_clipped.Goals as goal

pub loop-c-init : goal.loop-c-init
loop-c-init c = fill_none _ _ _

pub loop-c-preserved : goal.loop-c-preserved
unfolding clipped
loop-c-preserved c = fill_turn _ c.loop-c.invariant c.lesser.ensures
