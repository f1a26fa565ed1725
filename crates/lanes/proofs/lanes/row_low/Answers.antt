-- `lanes::lanes::row_low` meets its contract. The loop keeps up that the first results are written, eight at a time. Assumes nothing.
use mathlib.Core.Path.{refl}
use native.Mathlib.Nat.{add_assoc}
use native.Mathlib.Omega.{arith}
use Rattle.taps.specs.Kernel.{low_ran}
use Rattle.taps.proofs.Loops.{fill_none}
use Rattle.taps.proofs.Runs.{run_turn}
use Rattle.lanes.proofs.lanes.row_low.Goals as goal

pub loop-i-init : goal.loop-i-init
loop-i-init g c = fill_none _ _ _

pub loop-i-preserved : goal.loop-i-preserved
unfolding low_ran
loop-i-preserved g c = run_turn _ 8 _ _ c.loop-i.invariant refl (omega arith) c.eight.ensures (λ k h. rw add_assoc)
