-- `candidates::offered` meets its contract, which is `turned`'s of what was read. Assumes nothing.
use mathlib.Core.Path.{◌∙◌}
use Rattle.candidates.specs.Scan.{offered}
use Rattle.records.proofs.Fit.{back}
use Rattle.candidates.proofs.scan.offered.Goals as goal

pub returns : goal.returns
unfolding offered
returns c =
    c.turned.ensures ∙ rw (back (record { sfits = c.frame_at.type_inv }), c.frame_at.ensures, c.mv_at.ensures.is)
