-- What the calls of this crate promise beside their contracts: each refusal is the lowest number that applies, and each call has one
-- outcome. Assumes nothing.
use mathlib.Core.Path.{◌≡◌, refl, sym, ◌∙◌}
use mathlib.Core.Bool.{Bool}
use Prim.Native.Nat.{ℕ}
use lib.IntN.{ℤ}
use Rattle.base.specs.Answer.{Lowest}
use Rattle.base.specs.declared.units.Mv.{Mv}
use Rattle.base.specs.declared.units.PlaneMv.{PlaneMv}
use Rattle.base.proofs.Answered.{lowest}
use Rattle.selection.specs.BlockMvs.{BlockMvs}
use Rattle.vectors.specs.Select.{select_rows, select_mv}
use Rattle.vectors.specs.Clamp.{clamp_rows, clamp_mv}
use Rattle.vectors.specs.Scale.{scale_rows, scale_mv}
use Rattle.vectors.specs.declared.inter_mv.BlockGrid.{BlockGrid}
use Rattle.vectors.specs.declared.inter_mv.ScaleGeom.{ScaleGeom}
use Rattle.vectors.specs.declared.inter_mv.SelectedMv.{SelectedMv}
use Rattle.vectors.specs.declared.inter_mv.ClampedMv.{ClampedMv}
use Rattle.vectors.specs.declared.inter_mv.ScaledMv.{ScaledMv}

pub select_lowest : (m : BlockMvs) (plane size b : ℕ) (sx sy : Bool) → Lowest (select_rows m plane size b sx sy)
select_lowest m plane size b sx sy = lowest (select_rows m plane size b sx sy) refl

pub clamp_lowest : (g : BlockGrid) (v : Mv) (plane : ℕ) → Lowest (clamp_rows g v plane)
clamp_lowest g v plane = lowest (clamp_rows g v plane) refl

pub scale_lowest : (g : ScaleGeom) (plane : ℕ) (x y : ℤ) (v : PlaneMv) → Lowest (scale_rows g plane x y v)
scale_lowest g plane x y v = lowest (scale_rows g plane x y v) refl

-- any two outcomes that a contract permits are equal: a contract names the whole result
one_outcome : {A : Type 0} {r s x : A} → r ≡ x → s ≡ x → r ≡ s
one_outcome e f = e ∙ sym f

pub select_one : (m : BlockMvs) (second : Bool) (plane size b : ℕ) (sx sy : Bool) (r s : SelectedMv)
    → r ≡ select_mv m second plane size b sx sy → s ≡ select_mv m second plane size b sx sy → r ≡ s
select_one m second plane size b sx sy r s = one_outcome

pub clamp_one : (g : BlockGrid) (v : Mv) (plane : ℕ) (sx sy : Bool) (r s : ClampedMv)
    → r ≡ clamp_mv g v plane sx sy → s ≡ clamp_mv g v plane sx sy → r ≡ s
clamp_one g v plane sx sy r s = one_outcome

pub scale_one : (g : ScaleGeom) (plane : ℕ) (x y : ℤ) (v : PlaneMv) (r s : ScaledMv)
    → r ≡ scale_mv g plane x y v → s ≡ scale_mv g plane x y v → r ≡ s
scale_one g plane x y v r s = one_outcome
