-- What an accepted clamp gives is legal for the scaling. Assumes nothing.
use mathlib.Core.Path.{◌≡◌, refl}
use mathlib.Core.Bool.{Bool, true}
use Prim.Native.Nat.{ℕ}
use Rattle.base.specs.Answer.{answer}
use Rattle.base.specs.Number.{between}
use Rattle.base.specs.declared.units.Mv.{Mv}
use Rattle.clamping.specs.Sizes.{highs, wides, high, wide}
use Rattle.base.proofs.Tests.{abs-between}
use Rattle.base.proofs.Legal.{row_bd, col_bd}
use Rattle.clamping.proofs.Near.{grid_near}
use Rattle.vectors.specs.Clamp.{shift, clamp_rows, clamp_mv}
use Rattle.vectors.specs.Scale.{legal16}
use Rattle.vectors.specs.declared.inter_mv.BlockGrid.{BlockGrid}
use Rattle.vectors.proofs.Accepted.{clamp_ok}
use Rattle.clamping.proofs.Tested.{size_kept}

pub clamped_legal : (g : BlockGrid) (v : Mv) (plane : ℕ) (sx sy : Bool) → answer (clamp_rows g v plane) ≡ 0
    → legal16 (clamp_mv g v plane sx sy).mv ≡ true
unfolding clamp_mv legal16 between
clamped_legal g v plane sx sy e =
    let ok = clamp_ok g v plane e in
    let tall = size_kept highs refl g.mi_size in
    let broad = size_kept wides refl g.mi_size in
    let row = grid_near g.mi_rows (high g.mi_size) g.mi_row v.row.0 (shift plane sy) ok.down tall.0 tall.1
    (row_bd v ok.vector).le in
    let col = grid_near g.mi_cols (wide g.mi_size) g.mi_col v.col.0 (shift plane sx) ok.across broad.0 broad.1
    (col_bd v ok.vector).le in
    rw e (rw (abs-between 65533 _ row, abs-between 65533 _ col))
