-- What selection hands to the clamp is legal there: a mean of legal vectors is legal. Assumes nothing.
use mathlib.Core.Path.{◌≡◌, refl}
use mathlib.Core.Bool.{Bool, true, false, ◌&&◌, ◌||◌, cond}
use Prim.Native.Nat.{ℕ, ◌+◌, ◌≤◌, ◌<◌}
use native.Mathlib.Omega.{arith}
use lib.IntN.{ℤ, pos, nat_abs, ◌+ℤ◌, ◌-ℤ◌}
use lib.Signed.{lt_z, quot_z}
use Rattle.base.specs.Vector.{mv, legal, legal_mv}
use Rattle.base.specs.declared.units.Mv.{Mv}
use Rattle.base.proofs.Bd.{bd, lit, ◌⊕◌, ◌⊖◌, abs-quot}
use Rattle.base.proofs.Legal.{row_bd, col_bd}
use Rattle.base.proofs.Tests.{abs-between}
use Rattle.selection.specs.BlockMvs.{BlockMvs, legal_list}
use Rattle.selection.specs.Select.{halved, quartered, pair, quad, all_four, own_vector, partner_off, partnered, chosen}
use Rattle.selection.proofs.Parts.{legal_at, partner_below}

half_small : (v : ℤ) → nat_abs v ≤ 65534 → nat_abs (halved v) ≤ 32767
unfolding halved
half_small v h = by-test (lt_z v (pos 0))
  where
    by-test : (t : Bool) → nat_abs (quot_z (cond t (v -ℤ pos 1) (v +ℤ pos 1)) (pos 2)) ≤ 32767
    by-test true = omega (arith, abs-quot (v -ℤ pos 1) 2, (bd v h ⊖ lit (pos 1)).le)
    by-test false = omega (arith, abs-quot (v +ℤ pos 1) 2, (bd v h ⊕ lit (pos 1)).le)

quarter_small : (v : ℤ) → nat_abs v ≤ 131068 → nat_abs (quartered v) ≤ 32767
unfolding quartered
quarter_small v h = by-test (lt_z v (pos 0))
  where
    by-test : (t : Bool) → nat_abs (quot_z (cond t (v -ℤ pos 2) (v +ℤ pos 2)) (pos 4)) ≤ 32767
    by-test true = omega (arith, abs-quot (v -ℤ pos 2) 4, (bd v h ⊖ lit (pos 2)).le)
    by-test false = omega (arith, abs-quot (v +ℤ pos 2) 4, (bd v h ⊕ lit (pos 2)).le)

small_legal : (row col : ℤ) → nat_abs row ≤ 32767 → nat_abs col ≤ 32767 → legal_mv (mv row col) ≡ true
unfolding legal_mv legal
small_legal row col r c = rw (abs-between 32766 row r, abs-between 32766 col c)

pair_legal : (a b : Mv) → legal_mv a ≡ true → legal_mv b ≡ true → legal_mv (pair a b) ≡ true
unfolding pair
pair_legal a b e f =
    small_legal _ _ (half_small _ (row_bd a e ⊕ row_bd b f).le) (half_small _ (col_bd a e ⊕ col_bd b f).le)

quad_legal : (a b c d : Mv) → legal_mv a ≡ true → legal_mv b ≡ true → legal_mv c ≡ true → legal_mv d ≡ true → legal_mv (quad a b c d) ≡ true
unfolding quad
quad_legal a b c d e f g h =
    small_legal _ _
    (quarter_small _ (row_bd a e ⊕ row_bd b f ⊕ row_bd c g ⊕ row_bd d h).le)
    (quarter_small _ (col_bd a e ⊕ col_bd b f ⊕ col_bd c g ⊕ col_bd d h).le)

choice : (s t u : Bool) (v w x y : Mv) → (s ≡ true → legal_mv v ≡ true) → (t ≡ true → legal_mv w ≡ true)
    → (s ≡ false → u ≡ true → legal_mv x ≡ true) → legal_mv y ≡ true → legal_mv (cond s v (cond t w (cond u x y))) ≡ true
choice true t u v w x y e f g h = e refl
choice false true u v w x y e f g h = f refl
choice false false true v w x y e f g h = g refl refl
choice false false false v w x y e f g h = h

off_small : (sx sy : Bool) → partner_off sx sy ≤ 2
unfolding partner_off
off_small true true = omega arith
off_small true false = omega arith
off_small false true = omega arith
off_small false false = omega arith

-- the vector that a plane takes from a legal list is legal
pub chosen_legal : (m : BlockMvs) (list plane size b : ℕ) (sx sy : Bool) → b < 4 → partnered plane size b sx sy ≡ true → legal_list m list ≡ true
    → legal_mv (chosen m list plane size b sx sy) ≡ true
unfolding chosen all_four
chosen_legal m list plane size b sx sy lt partner e =
    let at = legal_at m list e in
    choice (own_vector plane size) (sx && sy) (sx || sy) _ _ _ _
    (λ q. at b lt)
    (λ q. quad_legal _ _ _ _ (at 0 (omega arith)) (at 1 (omega arith)) (at 2 (omega arith)) (at 3 (omega arith)))
    (λ q r. pair_legal _ _ (at b lt) (at (b + partner_off sx sy) (partner_below plane size b sx sy q (off_small sx sy) partner)))
    (at b lt)
