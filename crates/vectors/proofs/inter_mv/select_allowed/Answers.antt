-- `select_allowed` meets its contract: the code asks the rows of the table in their order. Assumes nothing.
use Rattle.std.proofs.Common.{sym, ◌∙◌}
use Rattle.base.proofs.Rows.{last, past, left, handed}
use Rattle.vectors.proofs.inter_mv.select_allowed.Goals as goal

pub returns-in_err-unless : goal.returns-in_err-unless
returns-in_err-unless c =
    let e = rw c.partnered-partner.ensures at c.in_err-unless.ensures in
    handed _ _ c.from_residual.ensures.1 ∙ left _ _ _ _ (sym e)

pub returns : goal.returns
returns c =
    let e = rw c.partnered-partner.ensures at c.in_ok-unless.ensures in
    rw (c.unless-2.ensures, c.is_legal_block.ensures) (last _ _ ∙ past _ _ _ (sym e))
