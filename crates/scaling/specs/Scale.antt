-- Where a plane's block starts in the reference, and how it steps: the standard's 8.5.2.3. Assumes nothing.
use Rattle.std.specs.Prelude.{ℕ, ◌*◌, ◌/◌, ◌%◌, Bool, ◌&&◌, cond, eqb, ℤ, pos, negsuc, ◌+ℤ◌, ◌*ℤ◌}
use Rattle.std.specs.Int.Signed.{le_z, shr_z}
use Rattle.base.specs.Number.{between}
use Rattle.base.specs.Position.{to_n}
use Rattle.base.specs.declared.units.PlaneMv.{PlaneMv}

-- xScale and yScale: (reference << REF_SCALE_SHIFT) / frame, REF_SCALE_SHIFT = 14
unfoldable pub scale_of : ℕ → ℕ → ℕ
scale_of reference frame = reference * 16384 / frame

-- lumaX and lumaY: a chroma plane's place in luma samples
unfoldable pub luma_of : ℕ → Bool → ℕ → ℕ
luma_of plane sub x = cond (eqb plane 0) x (cond sub (x * 2) x)

-- fracX and fracY: "The product 16 x luma_x x scale is taken exactly"
unfoldable pub frac_of : ℕ → ℕ → ℕ
frac_of luma scale = 16 * luma * scale / 16384 % 16

-- startX and startY: (base << SUBPEL_BITS) + ((v * scale) >> REF_SCALE_SHIFT) + frac
unfoldable pub start_of : ℕ → ℕ → ℕ → ℤ → ℤ
start_of x luma scale v = pos (x * scale / 16384 * 16) +ℤ (shr_z (v *ℤ pos scale) 16384 +ℤ pos (frac_of luma scale))

-- stepX and stepY
unfoldable pub step_of : ℕ → ℕ
step_of scale = 16 * scale / 16384

-- a width or height 1..65536
unfoldable pub sized : ℤ → Bool
sized n = between (pos 1) (pos 65536) n

-- "A reference is allowed when, in each dimension, 2 x frame >= reference and frame <= 16 x reference"
unfoldable pub allowed : ℤ → ℤ → Bool
allowed reference frame = le_z reference (pos 2 *ℤ frame) && le_z frame (pos 16 *ℤ reference)

-- one dimension of row 5
unfoldable pub usable : ℤ → ℤ → Bool
usable reference frame = sized reference && sized frame && allowed reference frame

-- one of row 6: x or y 0..65535
unfoldable pub placed : ℤ → Bool
placed x = between (pos 0) (pos 65535) x

-- row 9, "for the scaling call, whose vector counts sixteenths, outside -65534..65534"
unfoldable pub legal16 : PlaneMv → Bool
legal16 v = between (negsuc 65533) (pos 65534) v.row.0 && between (negsuc 65533) (pos 65534) v.col.0

-- one axis: the size of the reference and of the frame, the place in the plane, the clamped vector's component
unfoldable pub start_axis : ℤ → ℤ → ℕ → Bool → ℤ → ℤ → ℤ
start_axis reference frame plane sub x v = start_of (to_n x) (luma_of plane sub (to_n x)) (scale_of (to_n reference) (to_n frame)) v

unfoldable pub step_axis : ℤ → ℤ → ℤ
step_axis reference frame = pos (step_of (scale_of (to_n reference) (to_n frame)))
