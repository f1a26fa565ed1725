-- What an accepted call's table says of its arguments. Assumes nothing.
use mathlib.Core.Path.{◌≡◌}
use mathlib.Core.Bool.{Bool, true, ◌&&◌}
use Prim.Native.Nat.{ℕ, ◌≤◌, ◌<◌}
use native.Mathlib.Omega.{arith}
use borrow.Author.Tests.{leb-true}
use lib.Dec.{leb}
use lib.IntN.{ℤ, pos, negsuc, nat_abs}
use Rattle.base.specs.Answer.{answer}
use Rattle.base.specs.Number.{between}
use Rattle.base.specs.Vector.{legal_mv}
use Rattle.base.specs.declared.units.Mv.{Mv}
use Rattle.base.specs.declared.units.PlaneMv.{PlaneMv}
use Rattle.base.proofs.Answered.{unless_zero}
use Rattle.base.proofs.Tests.{and_left, and_right, and_both, and_four, between_abs}
use Rattle.selection.specs.BlockMvs.{BlockMvs, legal_block}
use Rattle.vectors.specs.Select.{select_rows, partnered}
use Rattle.vectors.specs.Clamp.{clamp_rows, on_axis}
use Rattle.vectors.specs.Scale.{scale_rows, usable, placed, legal16}
use Rattle.vectors.specs.declared.inter_mv.BlockGrid.{BlockGrid}
use Rattle.vectors.specs.declared.inter_mv.ScaleGeom.{ScaleGeom}

-- ---- selection

pub record SelectOk (m : BlockMvs) (plane size b : ℕ) (sx sy : Bool) : Type 0 where
  pub block : b < 4
  pub partner : partnered plane size b sx sy ≡ true
  pub vectors : legal_block m ≡ true

pub select_ok : (m : BlockMvs) (plane size b : ℕ) (sx sy : Bool) → answer (select_rows m plane size b sx sy) ≡ 0 → SelectOk m plane size b sx sy
select_ok m plane size b sx sy e =
    let p = unless_zero 0 (leb size 12 && leb b 3 && leb plane 2 && partnered plane size b sx sy) _ e in
    let q = unless_zero 8 (legal_block m) _ p.1 in
    let t = and_four (leb size 12) (leb b 3) (leb plane 2) (partnered plane size b sx sy) p.0 in
    record { block = omega (arith, leb-true b 3 t.1.0); partner = t.1.1.1; vectors = q.0 }

-- ---- clamping

pub record ClampOk (g : BlockGrid) (v : Mv) : Type 0 where
  pub size : g.mi_size ≤ 12
  pub down : on_axis g.mi_rows g.mi_row ≡ true
  pub across : on_axis g.mi_cols g.mi_col ≡ true
  pub vector : legal_mv v ≡ true

pub clamp_ok : (g : BlockGrid) (v : Mv) (plane : ℕ) → answer (clamp_rows g v plane) ≡ 0 → ClampOk g v
clamp_ok g v plane e =
    let p = unless_zero 0 (leb g.mi_size 12 && leb plane 2) _ e in
    let q = unless_zero 1 (on_axis g.mi_rows g.mi_row && on_axis g.mi_cols g.mi_col) _ p.1 in
    let r = unless_zero 8 (legal_mv v) _ q.1 in
    record {
      size = leb-true g.mi_size 12 (and_left (leb g.mi_size 12) _ p.0);
      down = and_left (on_axis g.mi_rows g.mi_row) _ q.0;
      across = and_right (on_axis g.mi_rows g.mi_row) _ q.0;
      vector = r.0;
    }

-- ---- scaling

pub record ScaleOk (g : ScaleGeom) (x y : ℤ) (v : PlaneMv) : Type 0 where
  pub across : usable g.ref_frame_width g.frame_width ≡ true
  pub down : usable g.ref_frame_height g.frame_height ≡ true
  pub x_ok : placed x ≡ true
  pub y_ok : placed y ≡ true
  pub row : nat_abs v.row.0 ≤ 65534
  pub col : nat_abs v.col.0 ≤ 65534

pub scale_ok : (g : ScaleGeom) (plane : ℕ) (x y : ℤ) (v : PlaneMv) → answer (scale_rows g plane x y v) ≡ 0 → ScaleOk g x y v
unfolding legal16
scale_ok g plane x y v e =
    let w = usable g.ref_frame_width g.frame_width in
    let h = usable g.ref_frame_height g.frame_height in
    let p = unless_zero 0 (leb plane 2) _ e in
    let q = unless_zero 4 (w && h) _ p.1 in
    let r = unless_zero 5 (placed x && placed y) _ q.1 in
    let s = and_both (between (negsuc 65533) (pos 65534) v.row.0) _ (unless_zero 8 (legal16 v) _ r.1).0 in
    record {
      across = and_left w h q.0;
      down = and_right w h q.0;
      x_ok = and_left (placed x) (placed y) r.0;
      y_ok = and_right (placed x) (placed y) r.0;
      row = between_abs 65533 v.row.0 s.0;
      col = between_abs 65533 v.col.0 s.1;
    }
