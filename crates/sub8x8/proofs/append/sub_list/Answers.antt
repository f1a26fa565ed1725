-- `sub_list` meets its contract, arm by arm. Assumes nothing.
use mathlib.Core.Path.{◌≡◌, refl, ◌∙◌}
use mathlib.Core.Bool.{Bool, true, false, cond}
use mathlib.Core.List.{List, [], ◌∷◌}
use Prim.Native.Nat.{ℕ}
use borrow.Author.Tests.{eq-eqb, ne_eqb}
use lib.Dec.{leb}
use Rattle.base.specs.declared.units.Mv.{Mv}
use Rattle.candidates.specs.Offers.{none, offers}
use Rattle.lists.specs.MvRef.{sub_mv, before, sub_list}
use Rattle.sub8x8.proofs.append.sub_list.Goals as goal

-- the search's pair is offered after the block's own vectors
more : (block : ℕ) (m : List Mv) (pair : List Mv) → offers (offers none (before block m [])) pair ≡ offers none (before block m pair)
unfolding before offers
more block m pair = by-test (leb block 2)
  where
    by-test : (t : Bool)
        → offers (offers none (cond t (sub_mv m 0 ∷ []) (sub_mv m 2 ∷ sub_mv m 1 ∷ sub_mv m 0 ∷ []))) pair
        ≡ offers none (cond t (sub_mv m 0 ∷ pair) (sub_mv m 2 ∷ sub_mv m 1 ∷ sub_mv m 0 ∷ pair))
    by-test true = refl
    by-test false = refl

pub returns-then-block-eq0 : goal.returns-then-block-eq0
unfolding sub_list
returns-then-block-eq0 c = rw (eq-eqb c.args.block 0 c.if-block-eq0.true)

pub returns : goal.returns
unfolding sub_list
returns c =
    let a = c.args in
    c.offered.ensures
    ∙ rw (c.before-2.ensures, ne_eqb a.block 0 c.if-block-eq0.false) (more a.block a.m (a.first ∷ a.second ∷ []))
