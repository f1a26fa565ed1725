-- `kernels::rows::run_eights` meets its contract. The loop keeps up that i eights are written, the last of them past the end. Assumes nothing.
use Prim.Native.Nat.{◌*◌}
use mathlib.Core.Path.{refl}
use native.Mathlib.Omega.{arith}
use Rattle.taps.specs.Kernel.{alike}
use Rattle.taps.proofs.Runs.{gathered_none, gathered_fill, gathered_less, gathered_join}
use Rattle.kernels.proofs.rows.run_eights.Goals as goal

pub loop-i-init : goal.loop-i-init
loop-i-init c = gathered_none _ _ _

pub loop-i-preserved : goal.loop-i-preserved
unfolding alike
loop-i-preserved c =
    let eight = gathered_fill _ 8 _ (omega (arith, c.loop-i.invariant.len)) c.repeated.ensures in
    gathered_join (c.loop-i.i * 8) _ c.loop-i.invariant eight refl (omega arith) (omega arith) (λ k h. refl)

pub returns : goal.returns
returns c = gathered_less _ _ c.loop-i.invariant (omega arith) (λ k h. refl)
