-- Laws of the one-sample sum: the code's unsigned sum is the definition's, samples that agree give one result, phase 0 is the sample itself.
-- Assumes nothing.
use mathlib.Core.Path.{◌≡◌, refl, sym, ap, ◌∙◌}
use Prim.Native.Nat.{ℕ, zero, suc, ◌+◌, ◌-◌, ◌*◌, ◌/◌, ◌<◌, ◌≤◌, min}
use native.Mathlib.Nat.{mul-suc, min-le_right}
use native.Mathlib.Omega.{arith}
use lib.IntN.{ℤ, pos, negsuc, ◌+ℤ◌, ◌*ℤ◌, *ℤ_comm, suc_ℤ-*ℤ, *ℤ-zero}
use Rattle.base.specs.Position.{to_n, floor_by, hold}
use Rattle.base.proofs.Lift.{Diff, diff_pos, diff_add, diff_to_n}
use Rattle.taps.specs.Taps.{tap}
use Rattle.taps.specs.Filter.{sum, filtered}
use Rattle.taps.specs.Eight.{Raised}
use Rattle.taps.specs.Kernel.{products, raised_one}
use Rattle.taps.specs.declared.eight.Taps.{Taps}
use Rattle.taps.proofs.TapRules.{tap_whole}

-- a sum below 0 is held to 0, before it is divided or after
pub filtered_is : (max : ℕ) (f : ℕ → ℤ) (x : ℕ → ℕ) → filtered max f x ≡ min (to_n (sum 8 f x +ℤ pos 64) / 128) max
unfolding filtered hold
filtered_is max f x = ap (λ (n : ℕ). min n max) (either_way (sum 8 f x +ℤ pos 64))
  where
    either_way : (z : ℤ) → to_n (floor_by 128 z) ≡ to_n z / 128
    either_way (pos n) = refl
    either_way (negsuc n) = refl

-- a difference times a natural number
pub diff_mul : {z : ℤ} {a b : ℕ} → Diff z a b → (x : ℕ) → Diff (z *ℤ pos x) (a * x) (b * x)
diff_mul {z} {a} {b} e zero = record { is = ap (λ (k : ℤ). k +ℤ pos (b * 0)) (*ℤ-zero z) ∙ ap pos (omega arith) }
diff_mul {z} {a} {b} e (suc x) = record {
  is =
      ap (λ (k : ℤ). k +ℤ pos (b * suc x)) (*ℤ_comm z (pos (suc x)) ∙ suc_ℤ-*ℤ (pos x) z ∙ ap (λ (k : ℤ). k +ℤ z) (*ℤ_comm (pos x) z))
      ∙ ap (λ (k : ℕ). z *ℤ pos x +ℤ z +ℤ pos k) (mul-suc b x)
      ∙ (diff_add (diff_mul e x) e).is
      ∙ ap pos (sym (mul-suc a x));
}

-- one tap more, lifted by 24
more : {s z : ℤ} {a b p : ℕ} → Diff s a b → Raised p z → (x : ℕ) → Diff (s +ℤ z *ℤ pos x) (a + p * x) (b + 24 * x)
more {z = z} {p = p} d r x = let t : Diff z p 24 = record { is = sym r.is } in diff_add d (diff_mul t x)

pub one_is : (max : ℕ) (p : Taps) (x : ℕ → ℕ)
    → raised_one max p (x 0) (x 1) (x 2) (x 3) (x 4) (x 5) (x 6) (x 7) ≡ filtered max (tap p.filter p.phase) x
unfolding raised_one
one_is max p x =
    let d4 = more (more (more (more (diff_pos 0) p.tap0 (x 0)) p.tap1 (x 1)) p.tap2 (x 2)) p.tap3 (x 3) in
    let d8 = more (more (more (more d4 p.tap4 (x 4)) p.tap5 (x 5)) p.tap6 (x 6)) p.tap7 (x 7) in
    let all : to_n (sum 8 (tap p.filter p.phase) x +ℤ pos 64)
    ≡ products p (x 0) (x 1) (x 2) (x 3) (x 4) (x 5) (x 6) (x 7) + 64 - 24 * (x 0 + x 1 + x 2 + x 3 + x 4 + x 5 + x 6 + x 7)
    = diff_to_n _ _ _ (diff_add d8 (diff_pos 64)) ∙ omega arith in
    ap (λ (n : ℕ). min (n / 128) max) (sym all) ∙ sym (filtered_is max (tap p.filter p.phase) x)

sum_same : (n : ℕ) (f g : ℕ → ℤ) (x y : ℕ → ℕ) → ((t : ℕ) → t < n → (f t ≡ g t) × (x t ≡ y t)) → sum n f x ≡ sum n g y
sum_same zero f g x y e = refl
sum_same (suc n) f g x y e =
    let last = e n (omega arith) in rw (sum_same n f g x y (λ t l. e t (omega arith)), last.0, last.1)

-- taps and samples that agree
pub filtered_same : (max : ℕ) (f g : ℕ → ℤ) (x y : ℕ → ℕ) → ((t : ℕ) → t < 8 → (f t ≡ g t) × (x t ≡ y t)) → filtered max f x ≡ filtered max g y
unfolding filtered
filtered_same max f g x y e = ap (λ (s : ℤ). hold max (floor_by 128 (s +ℤ pos 64))) (sum_same 8 f g x y e)

pub samples_same : (max : ℕ) (f : ℕ → ℤ) (x y : ℕ → ℕ) → ((t : ℕ) → t < 8 → x t ≡ y t) → filtered max f x ≡ filtered max f y
samples_same max f x y e = filtered_same max f f x y (λ t l. (refl, e t l))

-- phase 0: 128 times the fourth sample
pub filtered_whole : (max filter : ℕ) (x : ℕ → ℕ) → filter < 4 → filtered max (tap filter 0) x ≡ min (x 3) max
filtered_whole max filter x f4 =
    filtered_is max (tap filter 0) x
    ∙ ap (λ (s : ℤ). min (to_n (s +ℤ pos 64) / 128) max)
    (sum_same 8 (tap filter 0) _ x x (λ t l. (tap_whole filter 0 f4 (omega arith) t l refl, refl)))
    ∙ ap (λ (n : ℕ). min n max) (omega arith)

pub filtered_max : (max : ℕ) (f : ℕ → ℤ) (x : ℕ → ℕ) → filtered max f x ≤ max
unfolding filtered hold
filtered_max max f x = min-le_right _ _
