-- What a passed test says: of two tests joined, and of a signed number between two ends. Assumes nothing.
use mathlib.Core.Path.{◌≡◌, refl, sym}
use mathlib.Core.Bool.{Bool, true, false, ◌&&◌}
use Prim.Native.Nat.{ℕ, suc, ◌≤◌, ◌<◌}
use native.Mathlib.Omega.{arith}
use borrow.Author.Tests.{leb-true, ltb-true, le-leb}
use lib.Dec.{T, leb}
use lib.IntN.{ℤ, pos, negsuc, nat_abs}
use lib.Signed.{le_z, lt_z, non_neg}
use Rattle.base.specs.Number.{between, within}
use Rattle.base.specs.Position.{to_n}

-- no test both passes and fails
pub clash {ℓ} : {X : Type ℓ} → false ≡ true → X
clash e = let z : ◌≡◌ {A = ℕ} 0 1 = cc in absurd (omega arith)

pub and_left : (a b : Bool) → (a && b) ≡ true → a ≡ true
and_left true b e = refl
and_left false b e = e

pub and_right : (a b : Bool) → (a && b) ≡ true → b ≡ true
and_right true b e = e
and_right false b e = clash e

-- both at once
pub and_both : (a b : Bool) → (a && b) ≡ true → (a ≡ true) × (b ≡ true)
and_both a b e = (and_left a b e, and_right a b e)

pub within_both : (low high x : ℕ) → within low high x ≡ true → (low ≤ x) × (x ≤ high)
unfolding within
within_both low high x e =
    let p = and_both (leb low x) (leb x high) e in (leb-true low x p.0, leb-true x high p.1)

-- a number in low..high, ends that are no negative ones, is none either, and at most high
pub between_pos : (low high : ℕ) (z : ℤ) → between (pos low) (pos high) z ≡ true → T (non_neg z) × (nat_abs z ≤ high)
unfolding between
between_pos low high (pos n) e = (tt, leb-true n high (and_right (leb low n) (leb n high) e))
between_pos low high (negsuc n) e = clash e

-- a number in -m..m is at most m from zero
pub between_abs : (m : ℕ) (z : ℤ) → between (negsuc m) (pos (suc m)) z ≡ true → nat_abs z ≤ suc m
unfolding between
between_abs m (pos n) e = leb-true n (suc m) e
between_abs m (negsuc n) e = omega (arith, leb-true n m (and_left (leb n m) true e))

-- between two numbers that are no negative ones
pub le_z-up : (a b : ℤ) → T (non_neg a) → le_z a b ≡ true → T (non_neg b) × (nat_abs a ≤ nat_abs b)
le_z-up (pos a) (pos b) t e = (tt, leb-true a b e)
le_z-up (pos a) (negsuc b) t e = clash e
le_z-up (negsuc a) b t e = absurd t

pub lt_z-up : (a b : ℤ) → T (non_neg a) → lt_z a b ≡ true → T (non_neg b) × (nat_abs a < nat_abs b)
lt_z-up (pos a) (pos b) t e = (tt, ltb-true a b e)
lt_z-up (pos a) (negsuc b) t e = clash e
lt_z-up (negsuc a) b t e = absurd t

-- the test for a number below 0
pub below_zero : (z : ℤ) → lt_z z (pos 0) ≡ true → to_n z ≡ 0
below_zero (pos n) e = absurd (omega (arith, ltb-true n 0 e))
below_zero (negsuc n) e = refl

pub not_below_zero : (z : ℤ) → lt_z z (pos 0) ≡ false → T (non_neg z) × (nat_abs z ≡ to_n z)
not_below_zero (pos n) e = (tt, refl)
not_below_zero (negsuc n) e = clash (sym e)

-- toN of a number that is no negative one is that number
pub pos-to_n : (z : ℤ) → T (non_neg z) → pos (to_n z) ≡ z
pos-to_n (pos n) t = refl
pos-to_n (negsuc n) t = absurd t

-- each of three tests joined, and of four; `&&` joins from the left
pub and_three : (a b c : Bool) → (a && b && c) ≡ true → (a ≡ true) × ((b ≡ true) × (c ≡ true))
and_three a b c e = let p = and_both a b (and_left (a && b) c e) in (p.0, (p.1, and_right (a && b) c e))

pub and_four : (a b c d : Bool) → (a && b && c && d) ≡ true → (a ≡ true) × ((b ≡ true) × ((c ≡ true) × (d ≡ true)))
and_four a b c d e =
    let p = and_three a b c (and_left (a && b && c) d e) in (p.0, (p.1.0, (p.1.1, and_right (a && b && c) d e)))

-- a number at most m from zero passes the test
pub abs-between : (m : ℕ) (z : ℤ) → nat_abs z ≤ suc m → between (negsuc m) (pos (suc m)) z ≡ true
unfolding between
abs-between m (pos n) h = le-leb n (suc m) h
abs-between m (negsuc n) h = rw (le-leb n m (omega arith))
