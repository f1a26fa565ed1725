-- `Held::add` meets its contract, arm by arm. Assumes nothing.
use mathlib.Core.Path.{◌≡◌}
use mathlib.Core.Bool.{Bool, true, false, not}
use borrow.Author.Tests.{eq-eqb, ne_eqb}
use Rattle.base.proofs.Same.{mv_equal}
use Rattle.candidates.specs.Offers.{offer}
use Rattle.candidates.proofs.held.Held.add.Goals as goal
use Rattle.candidates.proofs.held.Held.add.Goals.{else-self-eq1-via-then-self-eq1+else-ne, else-self-eq1-via-else-self-eq1}

-- what `!=` told of two vectors
turned : (same r : Bool) → r ≡ not same → same ≡ not r
turned true r e = rw e
turned false r e = rw e

pub returns-then-self-eq0 : goal.returns-then-self-eq0
unfolding offer
returns-then-self-eq0 c = rw (eq-eqb c.args.self.count 0 c.if-self-eq0.true)

pub returns-then-ne : goal.returns-then-ne
unfolding offer
returns-then-ne c =
    let h = c.args.self in
    let other = turned _ c.ne.result (rw (mv_equal h.first c.args.v) at c.ne.ensures) in
    rw (ne_eqb h.count 0 c.if-self-eq0.false, eq-eqb h.count 1 c.if-self-eq1.true, other, c.if-ne.true)

pub returns : goal.returns
unfolding offer
returns c =
    let h = c.args.self in
    elim c.else-self-eq1.branch [
      | else-self-eq1-via-then-self-eq1+else-ne w ↦
          let same = turned _ w.ne.result (rw (mv_equal h.first c.args.v) at w.ne.ensures) in
          rw (ne_eqb h.count 0 c.if-self-eq0.false, eq-eqb h.count 1 w.if-self-eq1.true, same, w.if-ne.false)
      | else-self-eq1-via-else-self-eq1 w ↦ rw (ne_eqb h.count 0 c.if-self-eq0.false, ne_eqb h.count 1 w.if-self-eq1.false)
    ]
