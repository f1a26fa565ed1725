-- `candidates::asked` meets its contract, arm by arm. Assumes nothing.
use mathlib.Core.Path.{◌≡◌, sym, ap, ◌∙◌}
use mathlib.Core.Bool.{not}
use borrow.Author.Tests.{eq-eqb, ne_eqb}
use Rattle.candidates.specs.Scan.{suits, asked}
use Rattle.records.specs.Tables.{frame_at}
use Rattle.records.proofs.Fit.{back}
use Rattle.candidates.proofs.scan.asked.Goals as goal

pub returns-then-list-eq1 : goal.returns-then-list-eq1
unfolding asked
returns-then-list-eq1 c =
    let suits-is : let a = c.args in
    suits a.ask (frame_at a.pairs.frames.now a.i a.list)
    ≡ c.suits.result = sym (c.suits.ensures ∙ ap (suits c.args.ask) (back (record { sfits = c.frame_at.type_inv }) ∙ c.frame_at.ensures)) in
    let a = c.args in
    rw (suits-is ∙ c.if-suits.true, eq-eqb a.list 1 c.if-list-eq1.true) (ap not c.covered.ensures)

pub returns-else-list-eq1 : goal.returns-else-list-eq1
unfolding asked
returns-else-list-eq1 c =
    let suits-is : let a = c.args in
    suits a.ask (frame_at a.pairs.frames.now a.i a.list)
    ≡ c.suits.result = sym (c.suits.ensures ∙ ap (suits c.args.ask) (back (record { sfits = c.frame_at.type_inv }) ∙ c.frame_at.ensures)) in
    let a = c.args in
    rw (suits-is ∙ c.if-suits.true, ne_eqb a.list 1 c.if-list-eq1.false)

pub returns-else-suits : goal.returns-else-suits
unfolding asked
returns-else-suits c =
    let suits-is : let a = c.args in
    suits a.ask (frame_at a.pairs.frames.now a.i a.list)
    ≡ c.suits.result = sym (c.suits.ensures ∙ ap (suits c.args.ask) (back (record { sfits = c.frame_at.type_inv }) ∙ c.frame_at.ensures)) in
    rw (suits-is ∙ c.if-suits.false)
