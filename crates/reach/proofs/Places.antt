-- Where the ends of the rectangle lie: every place that a tap reads is between them, they are read themselves, they are in the plane, and more
-- positions reach no less far. Assumes nothing.
use mathlib.Core.Path.{◌≡◌, refl, sym, ap, ◌∙◌}
use Prim.Native.Nat.{ℕ, suc, ◌+◌, ◌-◌, ◌*◌, ◌/◌, ◌<◌, ◌≤◌, min}
use native.Mathlib.Nat.{mul-le-mul_left, min-le_right}
use native.Mathlib.Omega.{arith}
use lib.IntN.{ℤ, pos, negsuc, ◌+ℤ◌, ◌-ℤ◌}
use lib.Signed.{shr_z}
use Rattle.base.specs.Position.{to_n, floor16, hold, along, place}
use Rattle.base.proofs.Lift.{Diff, Lifted, lifted, diff_pos, diff_neg, diff_add, diff_to_n, diff_along, place-lifted}
use Rattle.base.specs.declared.units.Stepping.{Stepping}
use Rattle.reach.specs.Rectangle.{first_read, last_read, In, readable}

-- the machine's shift is the document's floor
pub shr-floor : (z : ℤ) → shr_z z 16 ≡ floor16 z
shr-floor (pos n) = refl
shr-floor (negsuc n) = refl

-- any position, lifted by a multiple of 16 of its own
record Up (z : ℤ) : Type 0 where
  q : ℕ
  k : ℕ
  is : Diff z q (16 * k)

up : (z : ℤ) → Up z
up (pos n) = record { q = n; k = 0; is = diff_pos n }
up (negsuc n) = record { q = 16 * suc n - suc n; k = suc n; is = diff_neg n (16 * suc n) (omega arith) }

first_is : (last : ℕ) (z : ℤ) (q k : ℕ) → Lifted z q k → first_read last z ≡ min (q / 16 - (k + 3)) last
unfolding first_read hold
first_is last z q k l =
    let three : Diff (negsuc 2) 0 3 = record { is = refl } in
    let e : to_n (floor16 z -ℤ pos 3) ≡ q / 16 - (k + 3) = omega (arith, diff_to_n _ _ _ (diff_add l.floor three)) in
    ap (λ (n : ℕ). min n last) e

last_is : (last : ℕ) (z : ℤ) (step n q k : ℕ) → Lifted (along z step (n - 1)) q k → last_read last z step n ≡ min (q / 16 + 4 - k) last
unfolding last_read hold
last_is last z step n q k l =
    let e : to_n (floor16 (along z step (n - 1)) +ℤ pos 4) ≡ q / 16 + 4 - k = omega (arith, diff_to_n _ _ _ (diff_add l.floor (diff_pos 4))) in
    ap (λ (m : ℕ). min m last) e

-- what each tap reads at each position is between the first and the last
in_reach : (last : ℕ) (s : ℤ) (step n i t : ℕ) → i < n → t < 8
    → (first_read last s ≤ place last (along s step i) t) × (place last (along s step i) t ≤ last_read last s step n)
in_reach last s step n i t lt t8 =
    let u = up s in
    let at : (j : ℕ) → Lifted (along s step j) (u.q + step * j) u.k = λ j. lifted _ _ u.k (diff_along step j u.is) in
    let far : step * i ≤ step * (n - 1) = mul-le-mul_left step (omega arith) in
    let a = first_is last s u.q u.k (lifted s u.q u.k u.is) in
    let b = last_is last s step n (u.q + step * (n - 1)) u.k (at (n - 1)) in
    let c = place-lifted last (along s step i) (u.q + step * i) u.k t (at i) in
    (omega arith, omega arith)

-- and both ends are read: the first by the first tap at the first position
pub first_end_read : (last : ℕ) (s : ℤ) (step : ℕ) → place last (along s step 0) 0 ≡ first_read last s
first_end_read last s step =
    let u = up s in
    place-lifted last (along s step 0) (u.q + step * 0) u.k 0 (lifted _ _ u.k (diff_along step 0 u.is))
    ∙ ap (λ (m : ℕ). min m last) (same u.q u.k step)
    ∙ sym (first_is last s u.q u.k (lifted s u.q u.k u.is))
  where
    same : (q k step : ℕ) → (q + step * 0) / 16 + 0 - (k + 3) ≡ q / 16 - (k + 3)
    same q k step = let e : q + step * 0 ≡ q = omega arith in rw e (omega arith)

-- the last by the last tap at the last position
pub last_end_read : (last : ℕ) (s : ℤ) (step n : ℕ) → place last (along s step (n - 1)) 7 ≡ last_read last s step n
last_end_read last s step n =
    let u = up s in
    let q = u.q + step * (n - 1) in
    let at = lifted (along s step (n - 1)) q u.k (diff_along step (n - 1) u.is) in
    place-lifted last (along s step (n - 1)) q u.k 7 at
    ∙ ap (λ (m : ℕ). min m last) (same q u.k)
    ∙ sym (last_is last s step n q u.k at)
  where
    same : (q k : ℕ) → q / 16 + 7 - (k + 3) ≡ q / 16 + 4 - k
    same q k = omega arith

-- a last end is in the plane
last_le : (last : ℕ) (z : ℤ) (step n : ℕ) → last_read last z step n ≤ last
unfolding last_read hold
last_le last z step n = min-le_right _ _

-- of more positions the last end is no earlier
last_more : (last : ℕ) (s : ℤ) (step n m : ℕ) → n ≤ m → last_read last s step n ≤ last_read last s step m
last_more last s step n m h =
    let u = up s in
    let at : (j : ℕ) → Lifted (along s step j) (u.q + step * j) u.k = λ j. lifted _ _ u.k (diff_along step j u.is) in
    let far : step * (n - 1) ≤ step * (m - 1) = mul-le-mul_left step (omega arith) in
    let a = last_is last s step n (u.q + step * (n - 1)) u.k (at (n - 1)) in
    let b = last_is last s step m (u.q + step * (m - 1)) u.k (at (m - 1)) in
    omega arith

-- ---- the rectangle

module _ (width height : ℕ) (s : Stepping) where
  abbrev column : ℕ → ℕ → ℕ
  column c t = place (width - 1) (along s.start_x.0 (to_n s.step_x.0) c) t

  abbrev line : ℕ → ℕ → ℕ
  line r t = place (height - 1) (along s.start_y.0 (to_n s.step_y.0) r) t

  -- it has every place that a sample of the block is computed from
  pub reads_in : (w h r c t u : ℕ) → r < h → c < w → t < 8 → u < 8 → In (readable w h width height s) (line r t) (column c u)
  unfolding readable
  reads_in w h r c t u rh cw t8 u8 =
      let v = in_reach (height - 1) s.start_y.0 (to_n s.step_y.0) h r t rh t8 in
      let x = in_reach (width - 1) s.start_x.0 (to_n s.step_x.0) w c u cw u8 in
      record { top = v.0; bottom = v.1; left = x.0; right = x.1 }

  -- it lies in the plane
  pub in_plane : (w h v u : ℕ) → 0 < width → 0 < height → In (readable w h width height s) v u → (v < height) × (u < width)
  unfolding readable
  in_plane w h v u wide high i = (
    omega (arith, i.bottom, last_le (height - 1) s.start_y.0 (to_n s.step_y.0) h),
    omega (arith, i.right, last_le (width - 1) s.start_x.0 (to_n s.step_x.0) w),
  )

  -- and that of a smaller block lies in that of a larger one
  pub in_more : (w h w' h' v u : ℕ) → w ≤ w' → h ≤ h' → In (readable w h width height s) v u → In (readable w' h' width height s) v u
  unfolding readable
  in_more w h w' h' v u wide high i =
      record {
        top = i.top;
        bottom = omega (arith, i.bottom, last_more (height - 1) s.start_y.0 (to_n s.step_y.0) h h' high);
        left = i.left;
        right = omega (arith, i.right, last_more (width - 1) s.start_x.0 (to_n s.step_x.0) w w' wide);
      }
