-- `call_of` meets its contract: the test of the first word is the definition's. Assumes nothing.
use Rattle.std.proofs.Common.{sym, ap, ◌∙◌, Some}
use borrow.Author.Tests.{eq-eqb, ne_eqb}
use Rattle.stored.specs.Bytes.{call_in}
use Rattle.stored.proofs.call_of.Goals as goal

pub returns-then-u32_at-eq-MAGIC : goal.returns-then-u32_at-eq-MAGIC
unfolding call_in
returns-then-u32_at-eq-MAGIC c =
    rw (eq-eqb _ 1112493643 (sym c.u32_at.ensures ∙ c.if-u32_at-eq-MAGIC.true)) (ap Some c.u32_at-then-u32_at-eq-MAGIC.ensures)

pub returns-else-u32_at-eq-MAGIC : goal.returns-else-u32_at-eq-MAGIC
unfolding call_in
returns-else-u32_at-eq-MAGIC c = rw (ne_eqb _ 1112493643 (λ e. c.if-u32_at-eq-MAGIC.false (c.u32_at.ensures ∙ e)))
