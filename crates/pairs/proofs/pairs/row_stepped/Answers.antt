-- `pairs::pairs::row_stepped` meets its contract. The loop keeps up that the first c results are written. Assumes nothing.
use mathlib.Core.Path.{◌∙◌}
use Rattle.taps.proofs.Loops.{fill_none, fill_turn}
use Rattle.pairs.specs.Pair.{pair_stepped}
use Rattle.pairs.proofs.pairs.row_stepped.Goals as goal

pub loop-c-init : goal.loop-c-init
loop-c-init c = fill_none _ _ _

pub loop-c-preserved : goal.loop-c-preserved
unfolding pair_stepped
loop-c-preserved c = fill_turn _ c.loop-c.invariant (c.pair_at.ensures ∙ rw (c.of.ensures, c.from.ensures))
