-- `pairs::pairs::pairs` meets its contract: the results are there, and then written. Assumes nothing.
use native.Mathlib.Omega.{arith}
use Rattle.taps.proofs.Loops.{fill_none, fill_turn}
use Rattle.lanes.proofs.Made.{made_turn}
use Rattle.pairs.specs.Pair.{low_pairs}
use Rattle.pairs.proofs.pairs.pairs.Goals as goal

pub loop-k-preserved : goal.loop-k-preserved
unfolding low_pairs
loop-k-preserved g c = made_turn _ c.loop-k.invariant (omega arith) c.low_at.ensures

pub loop-k-2-init : goal.loop-k-2-init
loop-k-2-init g c = fill_none _ _ _

pub loop-k-2-preserved : goal.loop-k-2-preserved
loop-k-2-preserved g c = fill_turn _ c.loop-k-2.invariant (c.loop-k.invariant.is c.loop-k-2.k (omega arith))
