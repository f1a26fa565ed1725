-- A number clipped between an end that is at most 0 and one that is at least -m stays within -m..m if it lay there; so a legal component stays
-- legal under the search's clamp, whose high end is at least -512. Assumes nothing.
use mathlib.Core.Path.{◌≡◌, refl, sym, ap, ◌∙◌}
use mathlib.Core.Bool.{Bool, true, false, cond}
use Prim.Native.Nat.{ℕ, zero, suc, ◌+◌, ◌-◌, ◌*◌, ◌≤◌}
use native.Mathlib.Nat.{le_trans}
use native.Mathlib.Omega.{arith}
use borrow.Author.Tests.{ltb-true, le-ltb}
use lib.Dec.{ltb}
use lib.IntN.{ℤ, pos, negsuc, neg_ℤ, nat_abs, ◌+ℤ◌, ◌-ℤ◌, ◌*ℤ◌, +ℤ_idl, +ℤ_assoc, +ℤ_comm}
use lib.Signed.{lt_z}
use Rattle.base.specs.Number.{clip3}
use Rattle.base.proofs.Tests.{clash}
use Rattle.clamping.specs.Border.{clamp_part}

-- how far a number lies below 0
abbrev pub below : ℤ → ℕ
below (pos n) = 0
below (negsuc n) = suc n

-- ---- the two ends

low_case : (v : ℤ) (a : ℕ) → lt_z v (neg_ℤ (pos a)) ≡ true → nat_abs (neg_ℤ (pos a)) ≤ nat_abs v
low_case v zero e = omega arith
low_case (pos k) (suc n) e = clash e
low_case (negsuc m) (suc n) e = omega (arith, ltb-true n m e)

high_case : (v high : ℤ) (m : ℕ) → nat_abs v ≤ m → below high ≤ m → lt_z high v ≡ true → nat_abs high ≤ m
high_case (pos k) (pos h) m hv hn e = omega (arith, ltb-true h k e)
high_case (negsuc k) (pos h) m hv hn e = clash e
high_case v (negsuc h) m hv hn e = hn

by_tests : (low high v : ℤ) (m : ℕ) (s t : Bool) → (s ≡ true → nat_abs low ≤ m) → (t ≡ true → nat_abs high ≤ m) → nat_abs v ≤ m
    → nat_abs (cond s low (cond t high v)) ≤ m
by_tests low high v m true t f g h = f refl
by_tests low high v m false true f g h = g refl
by_tests low high v m false false f g h = h

pub clip_kept : (a : ℕ) (low high v : ℤ) (m : ℕ) → low ≡ neg_ℤ (pos a) → below high ≤ m → nat_abs v ≤ m → nat_abs (clip3 low high v) ≤ m
unfolding clip3
clip_kept a low high v m e hn hv =
    rw e
    (by_tests (neg_ℤ (pos a)) high v m (lt_z v (neg_ℤ (pos a))) (lt_z high v)
    (λ (q : lt_z v (neg_ℤ (pos a)) ≡ true). omega (arith, low_case v a q))
    (λ (q : lt_z high v ≡ true). high_case v high m hv hn q) hv)

-- ---- the low end is at most 0

neg-add : (x y : ℕ) → neg_ℤ (pos x) +ℤ neg_ℤ (pos y) ≡ neg_ℤ (pos (x + y))
neg-add zero y = let e : y ≡ zero + y = omega arith in +ℤ_idl (neg_ℤ (pos y)) ∙ ap (λ (n : ℕ). neg_ℤ (pos n)) e
neg-add (suc x) zero =
    let e : suc x ≡ suc x + zero = omega arith in +ℤ_comm (negsuc x) (pos 0) ∙ +ℤ_idl (negsuc x) ∙ ap (λ (n : ℕ). neg_ℤ (pos n)) e
neg-add (suc x) (suc y) = let e : suc (suc (x + y)) ≡ suc x + suc y = omega arith in ap (λ (n : ℕ). neg_ℤ (pos n)) e

low_is : (x y : ℕ) → pos 0 -ℤ pos x -ℤ pos y ≡ neg_ℤ (pos (x + y))
low_is x y = ap (λ (z : ℤ). z +ℤ neg_ℤ (pos y)) (+ℤ_idl (neg_ℤ (pos x))) ∙ neg-add x y

-- ---- the high end is at least -512

sub-below : (c n : ℕ) (t : Bool) → ltb c (suc n) ≡ t → below (cond t (negsuc (suc n - suc c)) (pos (c - suc n))) ≤ suc n
sub-below c n true e = omega arith
sub-below c n false e = omega arith

diff_below : (c d : ℕ) → below (pos c -ℤ pos d) ≤ d
diff_below c zero = omega arith
diff_below c (suc n) = sub-below c n (ltb c (suc n)) refl

pub neg-below : (m : ℕ) → below (neg_ℤ (pos m)) ≡ m
neg-below zero = refl
neg-below (suc m) = refl

scaled_below : (z : ℤ) (m : ℕ) → below z ≤ m → below (pos 64 *ℤ z) ≤ 64 * m
scaled_below (pos k) m h = omega arith
scaled_below (negsuc k) m h = omega (arith, neg-below (64 * suc k))

pub add-below : (z : ℤ) (b m : ℕ) → below z ≤ m → below (z +ℤ pos b) ≤ m
add-below (pos k) b m h = omega arith
add-below (negsuc k) b m h = le_trans (sub-below b k (ltb b (suc k)) refl) h

-- t - f, of a cell f of an axis of t cells
pub inside_is : (t f : ℕ) → f ≤ t → pos t -ℤ pos f ≡ pos (t - f)
inside_is t zero h = let e : t + 0 ≡ t - 0 = omega arith in ap pos e
inside_is t (suc f) h = rw (le-ltb t (suc f) h)

swap : (a b c : ℤ) → (a +ℤ b) +ℤ c ≡ (a +ℤ c) +ℤ b
swap a b c = +ℤ_assoc a b c ∙ ap (λ (z : ℤ). a +ℤ z) (+ℤ_comm b c) ∙ sym (+ℤ_assoc a c b)

pub cells_below : (t n f : ℕ) → f ≤ t → below (pos t -ℤ pos n -ℤ pos f) ≤ n
cells_below t n f h = rw (swap (pos t) (neg_ℤ (pos n)) (neg_ℤ (pos f)), inside_is t f h) (diff_below (t - f) n)

-- a legal component stays legal
pub part_kept : (border t n f : ℕ) (v : ℤ) → f ≤ t → n ≤ 8 → nat_abs v ≤ 32767
    → nat_abs (clamp_part (pos border) (pos t) (pos n) (pos f) v) ≤ 32767
unfolding clamp_part
part_kept border t n f v inside few hv =
    let cells = cells_below t n f inside in
    let high = add-below (pos 64 *ℤ (pos t -ℤ pos n -ℤ pos f)) border (64 * n) (scaled_below (pos t -ℤ pos n -ℤ pos f) n cells) in
    clip_kept (64 * f + border) _ _ v 32767 (low_is (64 * f) border) (omega (arith, high)) hv
