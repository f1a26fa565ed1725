-- `taps::plain::row_averaged` meets its contract. The loop keeps up that the first c means are written. Assumes nothing.
use mathlib.Core.Path.{◌∙◌}
use Prim.Native.Nat.{◌+◌}
use native.Mathlib.Omega.{arith}
use Rattle.base.proofs.Painted.{fill_else}
use Rattle.taps.specs.Kernel.{mean_of, onward}
use Rattle.taps.proofs.Loops.{fill_none, fill_turn}
use Rattle.taps.proofs.plain.row_averaged.Goals as goal

pub loop-c-init : goal.loop-c-init
loop-c-init c = fill_none _ _ _

pub loop-c-preserved : goal.loop-c-preserved
unfolding mean_of onward
loop-c-preserved c =
    let a = c.args in
    let f = mean_of a.out.now a.at (onward a.l.now a.b) in
    let kept = fill_else a.out.now a.at c.loop-c.c f (a.at + c.loop-c.c) (λ k h e. omega arith) in
    fill_turn _ c.loop-c.invariant (c.average.ensures ∙ rw (c.loop-c.invariant.is, kept))
