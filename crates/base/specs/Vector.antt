-- Vectors and their legal range: document 01, 'Answer numbers', row 9. Assumes nothing.
use Rattle.std.specs.Prelude.{Bool, ◌&&◌, ℤ, pos, negsuc}
use Rattle.base.specs.Number.{between, equal}
use Rattle.base.specs.declared.units.Eighth.{Eighth}
use Rattle.base.specs.declared.units.Sixteenth.{Sixteenth}
use Rattle.base.specs.declared.units.Mv.{Mv}
use Rattle.base.specs.declared.units.PlaneMv.{PlaneMv}

abbrev pub eighth : ℤ → Eighth
eighth z = record { 0 = z }

abbrev pub sixteenth : ℤ → Sixteenth
sixteenth z = record { 0 = z }

abbrev pub mv : ℤ → ℤ → Mv
mv row col = record { row = eighth row; col = eighth col }

abbrev pub plane_mv : ℤ → ℤ → PlaneMv
plane_mv row col = record { row = sixteenth row; col = sixteenth col }

abbrev pub zero_mv : Mv
zero_mv = mv (pos 0) (pos 0)

-- a component in -32767..32767
unfoldable pub legal : Eighth → Bool
legal x = between (negsuc 32766) (pos 32767) x.0

unfoldable pub legal_mv : Mv → Bool
legal_mv v = legal v.row && legal v.col

-- equal, row and column
unfoldable pub same_mv : Mv → Mv → Bool
same_mv a b = equal a.row.0 b.row.0 && equal a.col.0 b.col.0
