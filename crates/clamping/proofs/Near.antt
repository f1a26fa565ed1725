-- What the clamp hands to the scaling is legal there: a clamped component stays within -65534..65534, since the clamp's low end is at most 0 and
-- its high end at least -1024. Assumes nothing.
use mathlib.Core.Path.{◌≡◌, refl, ap}
use mathlib.Core.Bool.{true}
use Prim.Native.Nat.{ℕ, zero, suc, ◌+◌, ◌-◌, ◌*◌, ◌/◌, ◌^◌, ◌≤◌}
use native.Mathlib.Nat.{div-le_self, le_trans, mul-le-mul_right}
use native.Mathlib.Omega.{arith}
use borrow.Author.Tests.{lt-ltb}
use lib.IntN.{ℤ, pos, negsuc, neg_ℤ, nat_abs, ◌-ℤ◌, ◌*ℤ◌}
use lib.Signed.{lt_z, le_z, shr_z}
use Rattle.base.specs.Number.{between}
use Rattle.base.specs.Position.{to_n}
use Rattle.base.proofs.Bd.{abs-mul, abs-shr}
use Rattle.base.proofs.Tests.{and_three, between_pos, le_z-up, lt_z-up, pos-to_n}
use Rattle.clamping.specs.Clamp.{edge, margin, clamp_axis, on_axis}
use Rattle.clamping.proofs.Ends.{below, neg-below, clip_kept, add-below, inside_is, cells_below}

-- how far a number lies above 0
abbrev above : ℤ → ℕ
above (pos n) = n
above (negsuc n) = 0

above_shr : (z : ℤ) (k : ℕ) → above (shr_z z k) ≤ above z
above_shr (pos n) k = div-le_self n k
above_shr (negsuc n) k = omega arith

neg-above : (m : ℕ) → above (neg_ℤ (pos m)) ≡ 0
neg-above zero = refl
neg-above (suc m) = refl

above_mul : (z : ℤ) (k : ℕ) → above z ≡ 0 → above (z *ℤ pos k) ≡ 0
above_mul (pos zero) k e = omega arith
above_mul (pos (suc n)) k e = absurd (omega arith)
above_mul (negsuc n) k e = neg-above (suc n * k)

above_sub : (z : ℤ) (b : ℕ) → above z ≡ 0 → above (z -ℤ pos b) ≡ 0
above_sub (pos n) zero e = omega arith
above_sub (pos zero) (suc b) e = rw (lt-ltb 0 (suc b) (omega arith))
above_sub (pos (suc n)) (suc b) e = absurd (omega arith)
above_sub (negsuc n) zero e = rw (lt-ltb 0 (suc n) (omega arith))
above_sub (negsuc n) (suc b) e = refl

not-above : (z : ℤ) → above z ≡ 0 → z ≡ neg_ℤ (pos (below z))
not-above (pos n) e = rw e
not-above (negsuc n) e = refl

below_shr : (z : ℤ) (k : ℕ) → below (shr_z z k) ≤ below z
below_shr (pos n) k = omega arith
below_shr (negsuc n) k = omega (arith, div-le_self n k)

below_mul : (z : ℤ) (k m : ℕ) → below z ≤ m → below (z *ℤ pos k) ≤ m * k
below_mul (pos n) k m h = omega arith
below_mul (negsuc n) k m h = omega (arith, neg-below (suc n * k), mul-le-mul_right k h)

-- a margin is at least 64
far : (q : ℕ) → pos ((4 + q) * 16) -ℤ pos 16 ≡ pos ((4 + q) * 16 - 16)
far q = inside_is ((4 + q) * 16) 16 (omega arith)

-- an axis of a legal vector: t cells, a block of n of them from cell f on
axis_near : (t n f : ℕ) (v : ℤ) (s : ℕ) → f ≤ t → n ≤ 8 → nat_abs v ≤ 32767 → nat_abs (clamp_axis (pos t) (pos n) (pos f) v s) ≤ 65534
unfolding clamp_axis edge margin
axis_near t n f v s inside few hv =
    let start = pos 0 -ℤ pos f in
    let cells = pos t -ℤ pos n -ℤ pos f in
    let q : ℕ = n * 8 / (2 ^ s) in
    let near = shr_z (start *ℤ pos 8 *ℤ pos 16) (2 ^ s) in
    let up = above_mul (start *ℤ pos 8) 16 (above_mul start 8 (above_sub (pos 0) f refl)) in
    let flat : above near ≡ 0 = omega (arith, above_shr (start *ℤ pos 8 *ℤ pos 16) (2 ^ s), up) in
    let low = not-above (near -ℤ pos ((4 + q) * 16)) (above_sub near ((4 + q) * 16) flat) in
    let wide = below_mul (cells *ℤ pos 8) 16 64 (le_trans (below_mul cells 8 8 (le_trans (cells_below t n f inside) few)) (omega arith)) in
    let deep = le_trans (below_shr (cells *ℤ pos 8 *ℤ pos 16) (2 ^ s)) wide in
    let high = add-below (shr_z (cells *ℤ pos 8 *ℤ pos 16) (2 ^ s)) ((4 + q) * 16 - 16) 1024 deep in
    clip_kept (below (near -ℤ pos ((4 + q) * 16))) _ _ _ 65534 low (rw (far q) (omega (arith, high)))
    (omega (arith, abs-shr (pos 2 *ℤ v) (2 ^ s), abs-mul (pos 2) v))

-- both ends of an axis are no negative numbers, and its first cell lies on it
on-axis : (total first : ℤ) → on_axis total first ≡ true → (pos (to_n total) ≡ total) × (pos (to_n first) ≡ first) × (to_n first ≤ to_n total)
unfolding on_axis
on-axis total first e =
    let p = and_three (between (pos 1) (pos 8192) total) (le_z (pos 0) first) (lt_z first total) e in
    let t = pos-to_n total (between_pos 1 8192 total p.0).0 in
    let up = (le_z-up (pos 0) first tt p.1.0).0 in
    let f = pos-to_n first up in
    let lt = (lt_z-up first total up p.1.1).1 in
    (t, f, omega (arith, lt, ap nat_abs t, ap nat_abs f))

pub grid_near : (total n first v : ℤ) (s : ℕ) → on_axis total first ≡ true → pos (to_n n) ≡ n → to_n n ≤ 8 → nat_abs v ≤ 32767
    → nat_abs (clamp_axis total n first v s) ≤ 65534
grid_near total n first v s e en few hv =
    let a = on-axis total first e in rw (← a.0, ← a.1, ← en) (axis_near (to_n total) (to_n n) (to_n first) v s a.2 few hv)
