-- `taps::plain::moved` meets its contract. The loops keep up that the first c samples are read, then that the first c are written. Assumes nothing.
use native.Mathlib.Omega.{arith}
use Rattle.taps.proofs.Loops.{fill_none, fill_turn}
use Rattle.taps.proofs.plain.moved.Goals as goal

pub loop-c-2-init : goal.loop-c-2-init
loop-c-2-init g c = fill_none _ _ _

pub loop-c-2-preserved : goal.loop-c-2-preserved
loop-c-2-preserved g c = fill_turn _ c.loop-c-2.invariant (c.loop-c.invariant.1 _ (omega arith))
