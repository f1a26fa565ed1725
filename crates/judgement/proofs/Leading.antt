-- The three calls of a list, each handed what the one before it gave: their answers make the definition's. Assumes nothing.
use Rattle.std.proofs.Common.{◌≡◌, List, [], ◌∷◌, false, Result, Ok, Err, refl, rules, ◌∙◌}
use Rattle.std.specs.Result.{ResultUnwrapsOrElse}
use Rattle.base.specs.Refused.{told}
use Rattle.base.specs.declared.refusal.Refusal.{Refusal}
use Rattle.base.specs.declared.units.Mv.{Mv}
use Rattle.base.specs.declared.units.PlaneMv.{PlaneMv}
use Rattle.base.specs.declared.units.Stepping.{Stepping}
use Rattle.base.specs.contracts.units.MvDefault.TheImpl as MvDefault
use Rattle.base.specs.contracts.units.PlaneMvDefault.TheImpl as PlaneMvDefault
use Rattle.base.specs.contracts.units.SteppingDefault.TheImpl as SteppingDefault
use Rattle.vectors.specs.Select.{select_mv, selected}
use Rattle.vectors.specs.Clamp.{clamp_mv, clamped}
use Rattle.vectors.specs.Scale.{scale_mv, scaled}
use Rattle.vectors.specs.declared.inter_mv.BlockGrid.{BlockGrid}
use Rattle.judgement.specs.Whole.{scale_geom}
use Rattle.judgement.specs.Chain.{Lead, numbers, start, lead}
use Rattle.judgement.specs.declared.judging.InterPredArgs.{InterPredArgs}
use Rattle.judgement.specs.declared.judging.FrameGeom.{FrameGeom}
use Rattle.judgement.specs.declared.judging.RefGeom.{RefGeom}

-- the vector that an answer leads to, or none where it is refused
pub mv_is : (r : Result Mv Refusal) (v : Mv) → ResultUnwrapsOrElse r (MvDefault.is_default-value).it v → v ≡ (selected r).mv
mv_is (Ok x) v e = e
mv_is (Err x) v e = search rules

pub plane_mv_is : (r : Result PlaneMv Refusal) (v : PlaneMv) → ResultUnwrapsOrElse r (PlaneMvDefault.is_default-value).it v → v ≡ (clamped r).mv
plane_mv_is (Ok x) v e = e
plane_mv_is (Err x) v e = search rules

pub start_is : (r : Result Stepping Refusal) (s : Stepping) → ResultUnwrapsOrElse r (SteppingDefault.is_default-value).it s → s ≡ start r
start_is (Ok x) s e = e
start_is (Err x) s e = search rules

-- a code's answers in the definitions' terms are those that C takes
c_form : (v : Result Mv Refusal) (p : Result PlaneMv Refusal) (q : Result Stepping Refusal)
    → ◌≡◌ {A = Lead}
    (numbers (record { select = v; clamp = p; scale = q }))
    (let s = scaled q in
    record {
      select = (selected v).answer;
      clamp = (clamped p).answer;
      scale = s.answer;
      from = record { start_x = s.start_x; start_y = s.start_y; step_x = s.step_x; step_y = s.step_y };
    })
c_form v p q = rw (select_told v, clamp_told p, scale_told q, from q)
  where
    select_told : (r : Result Mv Refusal) → told r ≡ (selected r).answer
    select_told (Ok x) = refl
    select_told (Err x) = refl

    clamp_told : (r : Result PlaneMv Refusal) → told r ≡ (clamped r).answer
    clamp_told (Ok x) = refl
    clamp_told (Err x) = refl

    scale_told : (r : Result Stepping Refusal) → told r ≡ (scaled r).answer
    scale_told (Ok x) = refl
    scale_told (Err x) = refl

    from : (r : Result Stepping Refusal) → let s = scaled r in
        start r ≡ record { start_x = s.start_x; start_y = s.start_y; step_x = s.step_x; step_y = s.step_y }
    from (Ok x) = refl
    from (Err x) = refl

module _ (b : InterPredArgs) (g : BlockGrid) (f : FrameGeom) (s : RefGeom) (l : List Mv) where
  pub lead_is : (v : Result Mv Refusal) (u : Mv) (p : Result PlaneMv Refusal) (w : PlaneMv) (q : Result Stepping Refusal)
      → selected v ≡ select_mv (l ∷ l ∷ []) false b.plane g.mi_size b.block f.subsampling_x f.subsampling_y
      → u ≡ (selected v).mv
      → clamped p ≡ clamp_mv g u b.plane f.subsampling_x f.subsampling_y
      → w ≡ (clamped p).mv
      → scaled q ≡ scale_mv (scale_geom f s) b.plane b.x b.y w
      → numbers (record { select = v; clamp = p; scale = q }) ≡ lead b g f s l
  unfolding lead
  lead_is v u p w q of_v u_is of_p w_is of_q =
      let held = rw (u_is, of_v) at of_p in
      let led = rw (w_is, held) at of_q in
      c_form v p q ∙ rw (led, held, of_v)
