-- Bounds that compute: a signed number with a bound of its distance from zero, put together as the code's expression is. From a bound
-- follows that an operation does not wrap (`fits`) and that the machine reads back what it wrote (`rd`). Assumes nothing.
use mathlib.Core.Path.{◌≡◌, refl}
use mathlib.Core.Bool.{Bool, true, false, cond}
use Prim.Native.Nat.{ℕ, zero, suc, ◌+◌, ◌-◌, ◌*◌, ◌/◌, ◌^◌, ◌≤◌}
use native.Mathlib.Nat.{mul-le-mul, lt_of_le_of_lt, le_refl, le_trans, div-le_self}
use native.Mathlib.Omega.{arith}
use borrow.Author.Tests.{ltb-true}
use lib.Dec.{T, ltb, ltb→lt}
use lib.IntN.{ℤ, pos, negsuc, neg_ℤ, nat_abs, ◌+ℤ◌, ◌-ℤ◌, ◌*ℤ◌}
use lib.Signed.{mag, quot_z, shr_z}
use mir.Syntax.{Width}
use mir.Val.{SFits, to_z, of_z, hbits}
use mir.Facts.{to_z-of_z}

-- ---- what each operation does to the distance from zero

pub abs_neg : (z : ℤ) → nat_abs (neg_ℤ z) ≡ nat_abs z
abs_neg (pos zero) = refl
abs_neg (pos (suc n)) = refl
abs_neg (negsuc n) = refl

-- a difference of two naturals, as the sum of a positive and a negative number computes it
abs_diff : (a b : ℕ) (t : Bool) → ltb a b ≡ t → nat_abs (cond t (negsuc (b - suc a)) (pos (a - b))) ≤ a + b
abs_diff a b true e = omega (arith, ltb-true a b e)
abs_diff a b false e = omega arith

pub abs-add : (a b : ℤ) → nat_abs (a +ℤ b) ≤ nat_abs a + nat_abs b
abs-add (pos a) (pos b) = omega arith
abs-add (negsuc a) (negsuc b) = omega arith
abs-add (pos a) (negsuc b) = abs_diff a (suc b) (ltb a (suc b)) refl
abs-add (negsuc a) (pos b) = omega (arith, abs_diff b (suc a) (ltb b (suc a)) refl)

pub abs-sub : (a b : ℤ) → nat_abs (a -ℤ b) ≤ nat_abs a + nat_abs b
abs-sub a b = omega (arith, abs-add a (neg_ℤ b), abs_neg b)

pub abs-mul : (a b : ℤ) → nat_abs (a *ℤ b) ≡ nat_abs a * nat_abs b
abs-mul (pos a) (pos b) = refl
abs-mul (negsuc a) (negsuc b) = refl
abs-mul (pos a) (negsuc b) = abs_neg (pos (a * suc b))
abs-mul (negsuc a) (pos b) = abs_neg (pos (suc a * b))

pub abs-quot : (a : ℤ) (k : ℕ) → nat_abs (quot_z a (pos k)) ≡ nat_abs a / k
abs-quot (pos a) k = refl
abs-quot (negsuc a) k = abs_neg (pos (suc a / k))

pub abs-shr : (a : ℤ) (k : ℕ) → nat_abs (shr_z a k) ≤ nat_abs a
abs-shr (pos a) k = div-le_self a k
abs-shr (negsuc a) k = omega (arith, div-le_self a k)

mag-abs : (z : ℤ) → mag z ≤ nat_abs z
mag-abs (pos n) = omega arith
mag-abs (negsuc n) = omega arith

-- ---- bounded numbers

-- a record, so that the number is inferred from the bound
pub record Bd (n : ℕ) (z : ℤ) : Type 0 where
  pub le : nat_abs z ≤ n

pub bd : {n : ℕ} (z : ℤ) → nat_abs z ≤ n → Bd n z
bd z h = record { le = h }

pub lit : (z : ℤ) → Bd (nat_abs z) z
lit z = record { le = le_refl (nat_abs z) }

infixl 6 ◌⊕◌ ◌⊖◌
infixl 7 ◌⊛◌
pub ◌⊕◌ : {m n : ℕ} {a b : ℤ} → Bd m a → Bd n b → Bd (m + n) (a +ℤ b)
◌⊕◌ {a = a} {b = b} x y = record { le = omega (arith, abs-add a b, x.le, y.le) }

pub ◌⊖◌ : {m n : ℕ} {a b : ℤ} → Bd m a → Bd n b → Bd (m + n) (a -ℤ b)
◌⊖◌ {a = a} {b = b} x y = record { le = omega (arith, abs-sub a b, x.le, y.le) }

pub ◌⊛◌ : {m n : ℕ} {a b : ℤ} → Bd m a → Bd n b → Bd (m * n) (a *ℤ b)
◌⊛◌ {a = a} {b = b} x y = record { le = rw (abs-mul a b) (mul-le-mul x.le y.le) }

pub quot : {m : ℕ} {a : ℤ} (k : ℕ) → Bd m a → Bd m (quot_z a (pos k))
quot {a = a} k x = record { le = rw (abs-quot a k) (le_trans (div-le_self (nat_abs a) k) x.le) }

pub shr : {m : ℕ} {a : ℤ} (k : ℕ) → Bd m a → Bd m (shr_z a k)
shr {a = a} k x = record { le = le_trans (abs-shr a k) x.le }

-- the number fits a width; `tt` closes the test where the bound is a numeral
pub fits : {w : Width} {n : ℕ} {z : ℤ} → Bd n z → T (ltb n (2 ^ hbits w)) → SFits w z
fits {w} {n} {z} x t = record { sfits = lt_of_le_of_lt (le_trans (mag-abs z) x.le) (ltb→lt n (2 ^ hbits w) t) }

-- the machine reads back what fits
pub rd : (w : Width) {n : ℕ} {z : ℤ} → Bd n z → T (ltb n (2 ^ hbits w)) → to_z w (of_z w z) ≡ z
rd w {z = z} x t = to_z-of_z {w = w} {z = z} (fits x t)
