-- The fields of a geometry fit their 32 bits, so that the machine reads back what it was handed. Assumes nothing.
use mathlib.Core.Path.{◌≡◌, ap, ◌∙◌}
use Prim.Native.Nat.{ℕ}
use lib.IntN.{ℤ}
use mir.Syntax.{w32}
use mir.Val.{SFits, to_z, of_z}
use mir.Facts.{to_z-of_z}
use Rattle.base.specs.Position.{to_n}
use Rattle.records.specs.declared.geometry.MvRefGeometry.{MvRefGeometry}

-- `search needs` makes it of what a function knows of its argument
pub record Fit (g : MvRefGeometry) : Type 0 where
  pub row : SFits w32 g.mi_row
  pub col : SFits w32 g.mi_col
  pub rows : SFits w32 g.mi_rows
  pub cols : SFits w32 g.mi_cols
  pub start : SFits w32 g.mi_col_start
  pub end : SFits w32 g.mi_col_end

-- a number in 32 bits, read back
pub back : {z : ℤ} → SFits w32 z → to_z w32 (of_z w32 z) ≡ z
back {z} f = to_z-of_z {w = w32} {z = z} f

-- what `natural` gave of it
pub natural_of : {n : ℕ} {z : ℤ} → SFits w32 z → n ≡ to_n (to_z w32 (of_z w32 z)) → n ≡ to_n z
natural_of f e = e ∙ ap to_n (back f)
