-- `taps::plain::run_copied` meets its contract. The loop keeps up that the first k samples are written. Assumes nothing.
use mathlib.Core.Path.{refl}
use Rattle.taps.specs.Kernel.{onward}
use Rattle.taps.proofs.Loops.{fill_none, fill_turn}
use Rattle.taps.proofs.plain.run_copied.Goals as goal

pub loop-k-init : goal.loop-k-init
loop-k-init c = fill_none _ _ _

pub loop-k-preserved : goal.loop-k-preserved
unfolding onward
loop-k-preserved c = fill_turn _ c.loop-k.invariant refl
