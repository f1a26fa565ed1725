-- `candidates::context` meets its contract: two counters reach at most 18. Assumes nothing.
use mathlib.Core.Path.{◌∙◌}
use Rattle.candidates.specs.Scan.{context_at}
use Rattle.candidates.proofs.find.context.Goals as goal

pub returns : goal.returns
unfolding context_at
returns c =
    c.context_of.ensures ∙ rw (c.counted.ensures.is, c.counted-2.ensures.is)
