-- A signed number lifted by k above zero and cast to an unsigned type, at any width; a 32-bit one read back. Assumes nothing.
use mathlib.Core.Path.{◌≡◌}
use Prim.Native.Nat.{ℕ, ◌<◌, ◌^◌}
use native.Mathlib.Omega.{arith}
use lib.Dec.{T}
use lib.IntN.{ℤ, pos, negsuc, ◌+ℤ◌, nat_abs}
use lib.Signed.{non_neg, mag}
use mir.Syntax.{Width, w32}
use mir.Val.{SFits, Fits, to_z, of_z, hbits, bits}
use mir.Facts.{to_z-of_z}
use Rattle.base.specs.Position.{to_n}

module _ (w v : Width) (z : ℤ) (k n : ℕ) (fits : SFits w z) (e : z +ℤ pos k ≡ pos n) (small : n < 2 ^ hbits w) where
  up_fits : SFits w (pos n)
  up_fits = record { sfits = small }

  pub sum_fits : SFits w (to_z w (of_z w z) +ℤ pos k)
  sum_fits = rw (to_z-of_z {w = w} fits, e) up_fits

  pub lift_casts : n < 2 ^ bits v
      → T (non_neg (to_z w (of_z w (to_z w (of_z w z) +ℤ pos k)))) × Fits v (nat_abs (to_z w (of_z w (to_z w (of_z w z) +ℤ pos k))))
  lift_casts low = rw (to_z-of_z {w = w} fits, e, to_z-of_z {w = w} up_fits) (tt, record { fits = low })

  pub lift_gives : nat_abs (to_z w (of_z w (to_z w (of_z w z) +ℤ pos k))) ≡ n
  lift_gives = rw (to_z-of_z {w = w} fits, e, to_z-of_z {w = w} up_fits)

-- the machine reads back a 32-bit number
pub read_back : (z : ℤ) → mag z < 2147483648 → to_z w32 (of_z w32 z) ≡ z
read_back z h = to_z-of_z {w = w32} {z = z} (record { sfits = h })

pub small_nat : (z : ℤ) → mag z < 2147483648 → to_n z < 2147483648
small_nat (pos n) h = h
small_nat (negsuc n) h = omega arith
