-- What a legal vector's test says of its components. Assumes nothing.
use mathlib.Core.Path.{◌≡◌}
use mathlib.Core.Bool.{true}
use Rattle.base.specs.Vector.{legal, legal_mv}
use Rattle.base.specs.declared.units.Eighth.{Eighth}
use Rattle.base.specs.declared.units.Mv.{Mv}
use Rattle.base.proofs.Bd.{Bd, bd}
use Rattle.base.proofs.Tests.{and_left, and_right, between_abs}

pub legal_bd : (x : Eighth) → legal x ≡ true → Bd 32767 x.0
unfolding legal
legal_bd x e = bd x.0 (between_abs 32766 x.0 e)

pub legal_row : (v : Mv) → legal_mv v ≡ true → legal v.row ≡ true
unfolding legal_mv
legal_row v e = and_left (legal v.row) (legal v.col) e

pub legal_col : (v : Mv) → legal_mv v ≡ true → legal v.col ≡ true
unfolding legal_mv
legal_col v e = and_right (legal v.row) (legal v.col) e

-- the components of a legal vector
pub row_bd : (v : Mv) → legal_mv v ≡ true → Bd 32767 v.row.0
row_bd v e = legal_bd v.row (legal_row v e)

pub col_bd : (v : Mv) → legal_mv v ≡ true → Bd 32767 v.col.0
col_bd v e = legal_bd v.col (legal_col v e)
