-- What the derived `==` of two vectors says is the definition's. Assumes nothing.
use Rattle.std.proofs.Common.{◌≡◌, ℕ, ℤ, pos, negsuc, Bool, true, false, ◌&&◌, refl, arith, int_eq}
use Rattle.std.proofs.lemmas.Int.{ints}
use borrow.Author.Tests.{eqb-true, eqb-false}
use lib.Dec.{eqb}
use Rattle.base.specs.Number.{equal}
use Rattle.base.specs.Vector.{same_mv}
use Rattle.base.specs.declared.units.Mv.{Mv}

both-pos : (a b : ℕ) (t : Bool) → eqb a b ≡ t → int_eq (pos a) (pos b) ≡ t
both-pos a b true e = let f : a ≡ b = eqb-true a b e in grind (arith, ints)
both-pos a b false e = let f : (a ≡ b → ⊥) = eqb-false a b e in grind (arith, ints)

both-neg : (a b : ℕ) (t : Bool) → eqb a b ≡ t → int_eq (negsuc a) (negsuc b) ≡ t
both-neg a b true e = let f : a ≡ b = eqb-true a b e in grind (arith, ints)
both-neg a b false e = let f : (a ≡ b → ⊥) = eqb-false a b e in grind (arith, ints)

pub int_equal : (x y : ℤ) → int_eq x y ≡ equal x y
int_equal (pos a) (pos b) = both-pos a b (eqb a b) refl
int_equal (pos a) (negsuc b) = refl
int_equal (negsuc a) (pos b) = refl
int_equal (negsuc a) (negsuc b) = both-neg a b (eqb a b) refl

pub mv_equal : (a b : Mv) → (int_eq a.row.0 b.row.0 && int_eq a.col.0 b.col.0) ≡ same_mv a b
unfolding same_mv
mv_equal a b = rw (int_equal a.row.0 b.row.0, int_equal a.col.0 b.col.0)
