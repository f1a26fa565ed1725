-- `taps::plain::repeated` meets its contract. The loop keeps up that the first c are written. Assumes nothing.
use mathlib.Core.Path.{refl}
use Rattle.taps.specs.Kernel.{alike}
use Rattle.taps.proofs.Loops.{fill_none, fill_turn}
use Rattle.taps.proofs.plain.repeated.Goals as goal

pub loop-c-init : goal.loop-c-init
loop-c-init c = fill_none _ _ _

pub loop-c-preserved : goal.loop-c-preserved
unfolding alike
loop-c-preserved c = fill_turn _ c.loop-c.invariant refl
