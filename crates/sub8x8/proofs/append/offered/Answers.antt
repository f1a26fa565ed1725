-- `offered` meets its contract: one offer after the other. Assumes nothing.
use mathlib.Core.Path.{◌∙◌}
use Rattle.candidates.specs.Offers.{offers}
use Rattle.sub8x8.proofs.append.offered.Goals as goal

pub returns : goal.returns
unfolding offers
returns c = c.add-2.ensures ∙ rw c.add.ensures
