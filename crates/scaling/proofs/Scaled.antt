-- How far from zero each step of the scaling stays; so starts are within -3,000,000..3,000,000 and steps within 1..32. Assumes nothing.
use mathlib.Core.Path.{◌≡◌}
use mathlib.Core.Bool.{Bool, true}
use Prim.Native.Nat.{ℕ, ◌+◌, ◌*◌, ◌/◌, ◌%◌, ◌≤◌, ◌<◌}
use native.Mathlib.Nat.{mul-le-mul, div-le_of_le-mul, le-div_iff_mul-le}
use native.Mathlib.Omega.{arith}
use lib.IntN.{ℤ, pos, negsuc, nat_abs, ◌*ℤ◌}
use lib.Signed.{shr_z}
use Rattle.base.specs.Position.{to_n}
use Rattle.base.proofs.Bd.{Bd, bd, ◌⊕◌, ◌⊛◌}
use Rattle.scaling.specs.Scale.{scale_of, step_of, frac_of, start_of, usable, start_axis, step_axis, luma_of, placed}
use Rattle.scaling.proofs.Tested.{Sizes, usable_sizes, placed_small}

-- a shift by 14 divides the bound too
pub shr14 : {m : ℕ} {a : ℤ} → Bd m a → Bd (m / 16384 + 1) (shr_z a 16384)
shr14 {m} {a} x = bd (shr_z a 16384) (within a x.le)
  where
    within : (z : ℤ) → nat_abs z ≤ m → nat_abs (shr_z z 16384) ≤ m / 16384 + 1
    within (pos n) h = omega arith
    within (negsuc n) h = omega arith

pub scaled_le : {x scale : ℕ} → x ≤ 65535 → scale ≤ 32768 → x * scale ≤ 2147450880
scaled_le h k = mul-le-mul h k

pub at_bd : (x scale : ℕ) → x ≤ 65535 → scale ≤ 32768 → Bd 2097120 (pos (x * scale / 16384 * 16))
at_bd x scale h k = bd _ (omega (arith, scaled_le h k))

pub frac_bd : (n : ℕ) → n < 16 → Bd 15 (pos n)
frac_bd n h = bd (pos n) (omega arith)

pub product_bd : (v : ℤ) (scale : ℕ) → nat_abs v ≤ 65534 → scale ≤ 32768 → Bd 2147418112 (v *ℤ pos scale)
product_bd v scale h k = bd v h ⊛ bd (pos scale) k

pub moved_bd : (v : ℤ) (scale : ℕ) → nat_abs v ≤ 65534 → scale ≤ 32768 → Bd 131069 (shr_z (v *ℤ pos scale) 16384)
moved_bd v scale h k = shr14 (product_bd v scale h k)

pub start_bd : (x luma scale : ℕ) (v : ℤ) → x ≤ 65535 → scale ≤ 32768 → nat_abs v ≤ 65534 → Bd 2228204 (start_of x luma scale v)
unfolding start_of frac_of
start_bd x luma scale v hx hs hv = at_bd x scale hx hs ⊕ (moved_bd v scale hv hs ⊕ frac_bd (16 * luma * scale / 16384 % 16) (omega arith))

-- an allowed reference is between a sixteenth of the frame and twice the frame
pub scale_high : {r f : ℕ} → Sizes r f → scale_of r f ≤ 32768
unfolding scale_of
scale_high {r} {f} s = div-le_of_le-mul f (omega (arith, s.double))

pub scale_low : {r f : ℕ} → Sizes r f → 1024 ≤ scale_of r f
unfolding scale_of
scale_low {r} {f} s = (le-div_iff_mul-le s.frame-low).1 (omega (arith, s.sixteen))

-- the theorems: what prediction needs of an accepted scaling call
pub start_near : (reference frame x v : ℤ) (plane : ℕ) (sub : Bool) → usable reference frame ≡ true → placed x ≡ true → nat_abs v ≤ 65534
    → nat_abs (start_axis reference frame plane sub x v) ≤ 3000000
unfolding start_axis
start_near reference frame x v plane sub u p h =
    let s = usable_sizes reference frame u in
    omega (arith, (start_bd (to_n x) (luma_of plane sub (to_n x)) (scale_of (to_n reference) (to_n frame)) v (placed_small x p) (scale_high s) h).le)

pub step_in : (reference frame : ℤ) → usable reference frame ≡ true
    → (1 ≤ to_n (step_axis reference frame)) × (to_n (step_axis reference frame) ≤ 32)
unfolding step_axis step_of
step_in reference frame u =
    let s = usable_sizes reference frame u in
    let low = scale_low s in
    let high = scale_high s in
    (omega arith, omega arith)
