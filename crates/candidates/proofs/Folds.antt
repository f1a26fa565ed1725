-- Offers folded: once two are held, further offers change nothing, so that a scan may be left then. The three laws of a loop over a run of
-- places or lists: its next turn, its end, and leaving it early. Assumes nothing.
use mathlib.Core.Path.{◌≡◌, refl, sym, ◌∙◌}
use mathlib.Core.List.{List, [], ◌∷◌, ◌++◌}
use Prim.Native.Nat.{ℕ, suc, ◌+◌, ◌-◌, ◌≤◌, ◌<◌}
use native.Mathlib.Numerals.{add-one}
use native.Mathlib.Omega.{arith}
use Rattle.base.specs.declared.units.Mv.{Mv}
use Rattle.candidates.specs.Offers.{offer, offers, run}
use Rattle.candidates.specs.declared.held.Held.{Held}

full : (h : Held) (v : Mv) → h.count ≡ 2 → offer h v ≡ h
unfolding offer
full h v e = rw e

pub stop : (h : Held) (vs : List Mv) → h.count ≡ 2 → offers h vs ≡ h
unfolding offers
stop h [] e = refl
stop h (v ∷ vs) e = rw (full h v e) (stop h vs e)

pub offers_append : (h : Held) (xs ys : List Mv) → offers h (xs ++ ys) ≡ offers (offers h xs) ys
unfolding offers
offers_append h [] ys = refl
offers_append h (x ∷ xs) ys = offers_append (offer h x) xs ys

-- a loop up to `top` over what `at k` offers; its invariant: the fold from here on of what is held now is all
module _ (at : ℕ → List Mv) (top : ℕ) where
  opened : (k : ℕ) → k < top → run at (top - k) k ≡ at k ++ run at (top - (k + 1)) (k + 1)
  unfolding run
  opened k h = let e : top - k ≡ suc (top - (k + 1)) = omega arith in rw (e, add-one)

  module _ (h now all : Held) (k : ℕ) (more : k < top) (turn : now ≡ offers h (at k)) (inv : offers h (run at (top - k) k) ≡ all) where
    pub next : offers now (run at (top - (k + 1)) (k + 1)) ≡ all
    next = rw (turn, ← offers_append h (at k) (run at (top - (k + 1)) (k + 1)), ← opened k more) inv

    pub left : now.count ≡ 2 → now ≡ all
    left two = sym (stop now (run at (top - (k + 1)) (k + 1)) two) ∙ next

  pub done : (h all : Held) (k : ℕ) → top ≤ k → offers h (run at (top - k) k) ≡ all → h ≡ all
  unfolding run offers
  done h all k end inv = let e : top - k ≡ 0 = omega arith in rw e at inv
