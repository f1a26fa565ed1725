-- Where a plane's block starts in the reference and how it steps, or the refusal: the standard's 8.5.2.3. One axis of it stands below, in
-- `scaling`. Assumes nothing.
use Rattle.std.specs.Prelude.{ℕ, ◌&&◌, cond, List, [], ◌∷◌, leb, eqb, ℤ, pos, Result, Ok, Err}
use Rattle.base.specs.Answer.{Row, row, answer, BLOCK, SIZE, START, VECTOR}
use Rattle.base.specs.Refused.{number}
use Rattle.base.specs.Vector.{sixteenth}
use Rattle.base.specs.declared.refusal.Refusal.{Refusal}
use Rattle.base.specs.declared.units.PlaneMv.{PlaneMv}
use Rattle.base.specs.declared.units.Stepping.{Stepping}
use Rattle.vectors.specs.declared.inter_mv.ScaleGeom.{ScaleGeom}
use Rattle.vectors.specs.declared.inter_mv.ScaledMv.{ScaledMv}
unfoldable pub use Rattle.scaling.specs.Scale.{scale_of, luma_of, frac_of, start_of, step_of, sized, allowed, usable, placed, legal16, start_axis, step_axis}

-- rows 1, 5, 6 and 9
abbrev pub scale_rows : ScaleGeom → ℕ → ℤ → ℤ → PlaneMv → List Row
scale_rows g plane x y v =
    row BLOCK (leb plane 2)
    ∷ row SIZE (usable g.ref_frame_width g.frame_width && usable g.ref_frame_height g.frame_height)
    ∷ row START (placed x && placed y)
    ∷ row VECTOR (legal16 v)
    ∷ []

unfoldable pub scale_mv : ScaleGeom → ℕ → ℤ → ℤ → PlaneMv → ScaledMv
scale_mv g plane x y v =
    let no = answer (scale_rows g plane x y v) in
    record {
      answer = no;
      start_x =
          sixteenth (cond (eqb no 0) (start_axis g.ref_frame_width g.frame_width plane g.subsampling_x x v.col.0) (pos 0));
      start_y =
          sixteenth (cond (eqb no 0) (start_axis g.ref_frame_height g.frame_height plane g.subsampling_y y v.row.0) (pos 0));
      step_x = sixteenth (cond (eqb no 0) (step_axis g.ref_frame_width g.frame_width) (pos 0));
      step_y = sixteenth (cond (eqb no 0) (step_axis g.ref_frame_height g.frame_height) (pos 0));
    }

-- an answer as C takes it: a refusal's number beside zeros
abbrev pub scaled : Result Stepping Refusal → ScaledMv
scaled (Ok s) = record { answer = 0; start_x = s.start_x; start_y = s.start_y; step_x = s.step_x; step_y = s.step_y }
scaled (Err r) =
    record {
      answer = number r;
      start_x = sixteenth (pos 0);
      start_y = sixteenth (pos 0);
      step_x = sixteenth (pos 0);
      step_y = sixteenth (pos 0);
    }
