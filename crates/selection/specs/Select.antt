-- The vector that a plane takes: the standard's 8.5.2.1, as document 01 restates it in 'From eighths to sixteenths'. Assumes nothing.
use Rattle.std.specs.Prelude.{ℕ, zero, suc, ◌+◌, ◌-◌, ◌/◌, Bool, ◌&&◌, ◌||◌, cond, leb, eqb, ℤ, pos, ◌+ℤ◌, ◌-ℤ◌, List, get_or}
use Rattle.std.specs.Int.Signed.{lt_z, quot_z}
use Rattle.base.specs.Vector.{mv, zero_mv}
use Rattle.base.specs.declared.units.Mv.{Mv}
use Rattle.selection.specs.BlockMvs.{BlockMvs, mv_at}

-- "ties go away from zero": one more, away from zero, before the quotient that rounds towards it
unfoldable pub halved : ℤ → ℤ
halved v = quot_z (cond (lt_z v (pos 0)) (v -ℤ pos 1) (v +ℤ pos 1)) (pos 2)

unfoldable pub quartered : ℤ → ℤ
quartered v = quot_z (cond (lt_z v (pos 0)) (v -ℤ pos 2) (v +ℤ pos 2)) (pos 4)

-- both are one rule: the nth part of a sum, ties away from zero
unfoldable pub rounded : ℕ → ℤ → ℤ
rounded n v = quot_z (cond (lt_z v (pos 0)) (v -ℤ pos (n / 2)) (v +ℤ pos (n / 2))) (pos n)

-- the sum of the first n vectors' components that f reads
unfoldable pub total : (Mv → ℤ) → List Mv → ℕ → ℤ
total f of zero = pos 0
total f of (suc n) = total f of n +ℤ f (get_or of n zero_mv)

-- the mean of the first n vectors
unfoldable pub mean : ℕ → List Mv → Mv
mean n of = mv (rounded n (total (λ v. v.row.0) of n)) (rounded n (total (λ v. v.col.0) of n))

-- the mean of two vectors, and of all four of a list
unfoldable pub pair : Mv → Mv → Mv
pair a b = mv (halved (a.row.0 +ℤ b.row.0)) (halved (a.col.0 +ℤ b.col.0))

unfoldable pub quad : Mv → Mv → Mv → Mv → Mv
quad a b c d =
    mv (quartered (a.row.0 +ℤ b.row.0 +ℤ c.row.0 +ℤ d.row.0)) (quartered (a.col.0 +ℤ b.col.0 +ℤ c.col.0 +ℤ d.col.0))

unfoldable pub all_four : BlockMvs → ℕ → Mv
all_four m list = quad (mv_at m list 0) (mv_at m list 1) (mv_at m list 2) (mv_at m list 3)

-- luma, and every block of 8x8 and more, takes its own vector (BLOCK_8X8 is 3)
unfoldable pub own_vector : ℕ → ℕ → Bool
own_vector plane size = eqb plane 0 || leb 3 size

-- "halved height pairs sub-block b with b+2", "halved width pairs b with b+1": how far off the partner stands
unfoldable pub partner_off : Bool → Bool → ℕ
partner_off sx sy = cond sx (cond sy 0 1) (cond sy 2 0)

-- the partner is one of sub-blocks 0..3
unfoldable pub partnered : ℕ → ℕ → ℕ → Bool → Bool → Bool
partnered plane size b sx sy = own_vector plane size || leb b (3 - partner_off sx sy)

-- which of the two lists
abbrev pub list_number : Bool → ℕ
list_number second = cond second 1 0

unfoldable pub chosen : BlockMvs → ℕ → ℕ → ℕ → ℕ → Bool → Bool → Mv
chosen m list plane size b sx sy =
    cond (own_vector plane size) (mv_at m list b)
    (cond (sx && sy) (all_four m list)
    (cond (sx || sy) (pair (mv_at m list b) (mv_at m list (b + partner_off sx sy))) (mv_at m list b)))
