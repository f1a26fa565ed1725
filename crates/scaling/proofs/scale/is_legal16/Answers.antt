-- `is_legal16` meets its contract: both components are judged. Assumes nothing.
use native.Mathlib.Omega.{arith}
use mir.Syntax.{w32}
use mir.Val.{SFits}
use mir.Facts.{to_z-of_z}
use Rattle.scaling.specs.Scale.{legal16}
use Rattle.scaling.proofs.scale.is_legal16.Goals as goal

pub returns : goal.returns
unfolding legal16
returns c =
    let v = c.args.v in
    let row : SFits w32 v.row.0 = record { sfits = omega arith } in
    let col : SFits w32 v.col.0 = record { sfits = omega arith } in
    rw (rw (to_z-of_z row) at c.between.ensures, rw (to_z-of_z col) at c.between-2.ensures)
