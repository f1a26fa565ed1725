-- `candidates::bias_of` meets its contract; past the frames there is no bias. Assumes nothing.
use mathlib.Core.Path.{sym}
use mathlib.Core.Bool.{false}
use lib.ListN.{get_or-eq_default}
use Rattle.records.proofs.Fit.{natural_of}
use Rattle.candidates.proofs.scan.bias_of.Goals as goal

pub returns-then-f-bias : goal.returns-then-f-bias
returns-then-f-bias c =
    rw (natural_of c.ranges.frame c.natural-f.ensures)

pub returns-else-f-bias : goal.returns-else-f-bias
returns-else-f-bias c =
    rw (← natural_of c.ranges.frame c.natural-f.ensures) (sym (get_or-eq_default c.args.bias.now false c.if-f-bias.false))
