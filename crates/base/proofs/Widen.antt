-- For casts of signed numbers to 64 bits: a number that fits a narrower width is carried over unchanged. Assumes nothing.
use mathlib.Core.Path.{◌≡◌}
use lib.IntN.{ℤ}
use lib.Dec.{T, leb}
use mir.Syntax.{Width, w64}
use mir.Val.{hbits, SFits, to_z, of_z}
use mir.Facts.{sfits_widen, to_z-of_z}

module _ {w : Width} {z : ℤ} (narrower : T (leb (hbits w) (hbits w64))) (small : SFits w z) where
  pub widens : SFits w64 (to_z w (of_z w z))
  widens = rw (to_z-of_z small) (sfits_widen narrower small)

  pub widened : to_z w64 (of_z w64 (to_z w (of_z w z))) ≡ z
  widened = rw (to_z-of_z small, to_z-of_z {w = w64} (sfits_widen narrower small))
