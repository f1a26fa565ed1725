-- From eighths of a luma sample to sixteenths of a plane sample, held near the frame: the standard's 8.5.2.2. Assumes nothing.
use Rattle.std.specs.Prelude.{ℕ, ◌^◌, Bool, ◌&&◌, cond, eqb, ℤ, pos, ◌+ℤ◌, ◌-ℤ◌, ◌*ℤ◌}
use Rattle.std.specs.Int.Signed.{le_z, lt_z, shr_z}
use Rattle.base.specs.Number.{between, clip3}

-- sx or sy of a plane: luma is never subsampled
unfoldable pub shift : ℕ → Bool → ℕ
shift plane sub = cond (eqb plane 0) 0 (cond sub 1 0)

-- a distance in cells as sixteenths of a plane sample: (cells * MI_SIZE) * 16 >> s
unfoldable pub edge : ℤ → ℕ → ℤ
edge cells s = shr_z (cells *ℤ pos 8 *ℤ pos 16) (2 ^ s)

-- spelLeft and spelTop: (INTERP_EXTEND + ((n * MI_SIZE) >> s)) << SUBPEL_BITS
unfoldable pub margin : ℤ → ℕ → ℤ
margin n s = (pos 4 +ℤ shr_z (n *ℤ pos 8) (2 ^ s)) *ℤ pos 16

-- one axis of a block that is n cells long and starts at cell `first` of `total`; the far margin is SUBPEL_SHIFTS = 16 shorter
unfoldable pub clamp_axis : ℤ → ℤ → ℤ → ℤ → ℕ → ℤ
clamp_axis total n first v s =
    clip3
    (edge (pos 0 -ℤ first) s -ℤ margin n s)
    (edge (total -ℤ n -ℤ first) s +ℤ (margin n s -ℤ pos 16))
    (shr_z (pos 2 *ℤ v) (2 ^ s))

-- row 2, one axis: total 1..8192, 0 <= first < total
unfoldable pub on_axis : ℤ → ℤ → Bool
on_axis total first = between (pos 1) (pos 8192) total && le_z (pos 0) first && lt_z first total
