-- `candidates::one_list` meets its contract, arm by arm. Assumes nothing.
use mathlib.Core.Path.{sym, ◌∙◌}
use Rattle.candidates.specs.Offers.{offers}
use Rattle.candidates.specs.Scan.{list_of}
use Rattle.candidates.proofs.scan.one_list.Goals as goal

pub returns-then-asked : goal.returns-then-asked
unfolding offers list_of
returns-then-asked c =
    rw (sym c.asked.ensures ∙ c.if-asked.true, ← c.offered.ensures) c.add.ensures

pub returns-else-asked : goal.returns-else-asked
unfolding offers list_of
returns-else-asked c = rw (sym c.asked.ensures ∙ c.if-asked.false)
