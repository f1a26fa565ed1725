-- `call_allowed` meets its contract: the code asks the rows of the table in their order. Assumes nothing.
use mathlib.Core.Path.{sym, ◌∙◌}
use mir.Facts.{to_z-of_z}
use Rattle.base.proofs.Rows.{last, past, left, handed}
use Rattle.lists.proofs.mv_ref.call_allowed.Goals as goal

pub returns-in_err-unless : goal.returns-in_err-unless
returns-in_err-unless c = handed _ _ c.from_residual.ensures.1 ∙ left _ _ _ _ (sym c.in_err-unless.ensures)

pub returns-in_err-unless-2 : goal.returns-in_err-unless-2
returns-in_err-unless-2 c =
    let e = rw c.grid_ok.ensures at c.in_err-unless-2.ensures in
    handed _ _ c.from_residual-in_err-unless-2.ensures.1 ∙ left _ _ _ _ (sym e) ∙ past _ _ _ (sym c.in_ok-unless.ensures)

pub returns : goal.returns
returns c =
    let e = rw c.grid_ok.ensures at c.in_ok-unless-2.ensures in
    let aimed = rw (to_z-of_z c.ranges.target) at c.between.ensures in
    rw (c.unless-3.ensures, aimed) (last _ _ ∙ past _ _ _ (sym e) ∙ past _ _ _ (sym c.in_ok-unless.ensures))
