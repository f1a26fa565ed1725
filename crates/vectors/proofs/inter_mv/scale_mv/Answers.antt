-- `scale_mv` meets its contract: refused by the table, or both axes scaled. Assumes nothing.
use mathlib.Core.Path.{◌≡◌, sym}
use Prim.Native.Nat.{ℕ}
use lib.IntN.{ℤ}
use mir.Syntax.{w32}
use mir.Val.{SFits, to_z, of_z}
use mir.Facts.{to_z-of_z}
use Rattle.std.proofs.lemmas.Result.{err_from_is_err_and}
use Rattle.base.specs.declared.units.PlaneMv.{PlaneMv}
use Rattle.base.proofs.Numbered.{not_zero}
use Rattle.base.specs.Answer.{answer}
use Rattle.vectors.specs.Scale.{scale_mv, scale_rows}
use Rattle.scaling.proofs.Tested.{usable_reads}
use Rattle.vectors.proofs.Accepted.{ScaleOk, scale_ok}
use Rattle.vectors.specs.declared.inter_mv.ScaleGeom.{ScaleGeom}
use Rattle.vectors.proofs.inter_mv.scale_mv.Goals as goal

-- the table passed, of the place that the machine reads back
passed : (g : ScaleGeom) (plane : ℕ) (x y : ℤ) (v : PlaneMv) → SFits w32 x → SFits w32 y
    → 0 ≡ answer (scale_rows g plane (to_z w32 (of_z w32 x)) (to_z w32 (of_z w32 y)) v) → ScaleOk g x y v
passed g plane x y v fx fy e = scale_ok g plane x y v (sym (rw (to_z-of_z fx, to_z-of_z fy) at e))

pub returns-in_err-scale_allowed : goal.returns-in_err-scale_allowed
unfolding scale_mv
returns-in_err-scale_allowed c =
    let p = err_from_is_err_and c.from_residual.result c.from_residual.ensures.1 in
    let e = rw (to_z-of_z c.ranges.x, to_z-of_z c.ranges.y) at c.in_err-scale_allowed.ensures in
    rw (p.1, p.2, ← e, not_zero c.in_err-scale_allowed.field-0.0)

pub start_axis-start_x-requires : goal.start_axis-start_x-requires
start_axis-start_x-requires c =
    let x = c.args in
    let a = passed x.geom x.plane x.x x.y x.mv c.ranges.x c.ranges.y c.in_ok-scale_allowed.ensures in
    let w = usable_reads x.geom.ref_frame_width x.geom.frame_width a.across in
    rw (w.0, w.1, to_z-of_z c.ranges.x) (record { accepted = (a.across, a.x_ok); vector = a.col })

pub start_axis-start_y-requires : goal.start_axis-start_y-requires
start_axis-start_y-requires c =
    let x = c.args in
    let a = passed x.geom x.plane x.x x.y x.mv c.ranges.x c.ranges.y c.in_ok-scale_allowed.ensures in
    let h = usable_reads x.geom.ref_frame_height x.geom.frame_height a.down in
    rw (h.0, h.1, to_z-of_z c.ranges.y) (record { accepted = (a.down, a.y_ok); vector = a.row })

pub step_axis-step_x-requires : goal.step_axis-step_x-requires
step_axis-step_x-requires c =
    let x = c.args in
    let a = passed x.geom x.plane x.x x.y x.mv c.ranges.x c.ranges.y c.in_ok-scale_allowed.ensures in
    let w = usable_reads x.geom.ref_frame_width x.geom.frame_width a.across in
    rw (w.0, w.1) a.across

pub step_axis-step_y-requires : goal.step_axis-step_y-requires
step_axis-step_y-requires c =
    let x = c.args in
    let a = passed x.geom x.plane x.x x.y x.mv c.ranges.x c.ranges.y c.in_ok-scale_allowed.ensures in
    let h = usable_reads x.geom.ref_frame_height x.geom.frame_height a.down in
    rw (h.0, h.1) a.down

pub returns : goal.returns
unfolding scale_mv
returns c =
    let x = c.args in
    let a = passed x.geom x.plane x.x x.y x.mv c.ranges.x c.ranges.y c.in_ok-scale_allowed.ensures in
    let w = usable_reads x.geom.ref_frame_width x.geom.frame_width a.across in
    let h = usable_reads x.geom.ref_frame_height x.geom.frame_height a.down in
    let e = rw (to_z-of_z c.ranges.x, to_z-of_z c.ranges.y) at c.in_ok-scale_allowed.ensures in
    rw (
      ← e,
      rw (w.0, w.1, to_z-of_z c.ranges.x) at c.start_axis-start_x.ensures,
      rw (h.0, h.1, to_z-of_z c.ranges.y) at c.start_axis-start_y.ensures,
      rw (w.0, w.1) at c.step_axis-step_x.ensures,
      rw (h.0, h.1) at c.step_axis-step_y.ensures,
    )
