-- A vector held near the frame, or the refusal: the standard's 8.5.2.2. One axis of it stands below, in `clamping`. Assumes nothing.
use Rattle.std.specs.Prelude.{ℕ, Bool, ◌&&◌, cond, List, [], ◌∷◌, leb, eqb, pos, Result, Ok, Err}
use Rattle.base.specs.Answer.{Row, row, answer, BLOCK, GRID, VECTOR}
use Rattle.base.specs.Refused.{number}
use Rattle.base.specs.Vector.{plane_mv, legal_mv}
use Rattle.base.specs.declared.refusal.Refusal.{Refusal}
use Rattle.base.specs.declared.units.Mv.{Mv}
use Rattle.base.specs.declared.units.PlaneMv.{PlaneMv}
use Rattle.clamping.specs.Sizes.{high, wide}
use Rattle.vectors.specs.declared.inter_mv.BlockGrid.{BlockGrid}
use Rattle.vectors.specs.declared.inter_mv.ClampedMv.{ClampedMv}
unfoldable pub use Rattle.clamping.specs.Clamp.{shift, edge, margin, clamp_axis, on_axis}

-- rows 1, 2 ("without a tile") and 9
abbrev pub clamp_rows : BlockGrid → Mv → ℕ → List Row
clamp_rows g v plane =
    row BLOCK (leb g.mi_size 12 && leb plane 2)
    ∷ row GRID (on_axis g.mi_rows g.mi_row && on_axis g.mi_cols g.mi_col)
    ∷ row VECTOR (legal_mv v)
    ∷ []

unfoldable pub clamp_mv : BlockGrid → Mv → ℕ → Bool → Bool → ClampedMv
clamp_mv g v plane sx sy =
    let no = answer (clamp_rows g v plane) in
    record {
      answer = no;
      mv =
          cond (eqb no 0)
          (plane_mv
          (clamp_axis g.mi_rows (high g.mi_size) g.mi_row v.row.0 (shift plane sy))
          (clamp_axis g.mi_cols (wide g.mi_size) g.mi_col v.col.0 (shift plane sx)))
          (plane_mv (pos 0) (pos 0));
    }

-- an answer as C takes it: a refusal's number beside zeros
abbrev pub clamped : Result PlaneMv Refusal → ClampedMv
clamped (Ok v) = record { answer = 0; mv = v }
clamped (Err r) = record { answer = number r; mv = plane_mv (pos 0) (pos 0) }
