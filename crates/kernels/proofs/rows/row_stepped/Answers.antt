-- `kernels::rows::row_stepped` meets its contract. The loop keeps up that the first c results are written. Assumes nothing.
use Rattle.taps.specs.Kernel.{stepped}
use Rattle.taps.proofs.Loops.{fill_none, fill_turn}
use Rattle.kernels.proofs.rows.row_stepped.Goals as goal

pub loop-c-init : goal.loop-c-init
loop-c-init c = fill_none _ _ _

pub loop-c-preserved : goal.loop-c-preserved
unfolding stepped
loop-c-preserved c = let t = c.taps_at-p.ensures in fill_turn _ c.loop-c.invariant (rw (t.0, t.1) at c.window.ensures)
