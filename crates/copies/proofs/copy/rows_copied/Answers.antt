-- `copies::copy::rows_copied` meets its contract. The loop keeps up that the first i rows are painted. Assumes nothing.
use Rattle.copies.specs.Copy.{clipped_rows}
use Rattle.taps.proofs.Loops.{paint_none, paint_turn}
use Rattle.copies.proofs.copy.rows_copied.Goals as goal

pub loop-i-init : goal.loop-i-init
loop-i-init c = paint_none _ _ _ _

pub loop-i-preserved : goal.loop-i-preserved
unfolding clipped_rows
loop-i-preserved c = paint_turn c.loop-i.invariant c.row_copied.ensures
