-- `passes::passes::pass_down` meets its contract: in steps of 16 the phase is one for all rows. Assumes nothing.
use mathlib.Core.Bool.{false}
use mathlib.Core.Path.{◌≡◌, ◌∙◌}
use borrow.Author.Tests.{eqb-true}
use Rattle.std.proofs.lemmas.Bool.{not-true}
use Rattle.base.proofs.Painted.{paint_same}
use Rattle.base.proofs.Tests.{and_both}
use Rattle.taps.specs.Taps.{tap}
use Rattle.passes.proofs.Blocks.{down-even}
use Rattle.passes.proofs.passes.pass_down.Goals as goal

pub returns-then-mean-y : goal.returns-then-mean-y
returns-then-mean-y c =
    let a = c.args in
    let both = and_both _ _ c.if-mean-y.true in
    let m : a.mean ≡ false = not-true _ both.0 in
    let q : a.y.step ≡ 16 = eqb-true _ _ both.1 in
    let e = c.taps_at-p.ensures in
    rw (m, q)
    (rw (e.0, e.1) at c.pass_down_even.ensures
    ∙ paint_same _ _ _ _ _ _ (λ k j kh jw. down-even a.area.max (tap a.filter) a.room.now a.y.start k j))
