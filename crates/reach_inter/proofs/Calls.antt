-- The contract of `inter_reach` permits one outcome, and the number given is the lowest that applies. Assumes nothing.
use mathlib.Core.Path.{◌≡◌, refl, sym, ◌∙◌}
use mathlib.Core.Bool.{Bool}
use lib.IntN.{ℤ}
use Rattle.base.specs.Answer.{Lowest}
use Rattle.base.proofs.Answered.{lowest}
use Rattle.vectors.specs.BlockMvs.{BlockMvs}
use Rattle.vectors.specs.declared.inter_mv.BlockGrid.{BlockGrid}
use Rattle.judgement.specs.declared.judging.InterPredArgs.{InterPredArgs}
use Rattle.judgement.specs.declared.judging.FrameGeom.{FrameGeom}
use Rattle.reach.specs.declared.reaching.Reach.{Reach}
use Rattle.reach_inter.specs.InterReach.{inter_rows, inter_reach}

module _ (b : InterPredArgs) (g : BlockGrid) (f : FrameGeom) (mvs : BlockMvs) (second : Bool) (x y : ℤ) where
  -- "Where several apply, the lowest number is given", "A number is given exactly when its row says so"
  pub inter_reach_lowest : Lowest (inter_rows b g f mvs second x y)
  inter_reach_lowest = lowest (inter_rows b g f mvs second x y) refl

  -- any two permitted outcomes are equal
  pub inter_reach_one : (r q : Reach) → r ≡ inter_reach b g f mvs second x y → q ≡ inter_reach b g f mvs second x y → r ≡ q
  inter_reach_one r q e f = e ∙ sym f
