-- `passes::passes::pass_rows` meets its contract: whole columns in steps of 16 are copies. Assumes nothing.
use mathlib.Core.Path.{◌≡◌, ◌∙◌}
use borrow.Author.Tests.{eqb-true}
use Rattle.base.proofs.Painted.{paint_same}
use Rattle.base.proofs.Tests.{and_both}
use Rattle.planes.specs.Seen.{seen}
use Rattle.passes.proofs.Copied.{across_copy}
use Rattle.passes.proofs.passes.pass_rows.Goals as goal

pub returns-then-x : goal.returns-then-x
returns-then-x c =
    let a = c.args in
    let both = and_both _ _ c.if-x.true in
    let q : a.x.step ≡ 16 = eqb-true _ _ both.1 in
    rw q
    (c.pass_copied.ensures
    ∙ paint_same _ _ _ _ _ _
    (λ i k ih kw. across_copy a.area.max a.filter (seen a.plane) a.x.start a.y0 i k c.requires.filter_bound.0 (eqb-true _ _ both.0)))
