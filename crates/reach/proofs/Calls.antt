-- The contract of `block_reach` permits one outcome, and the number given is the lowest that applies. Assumes nothing.
use mathlib.Core.Path.{◌≡◌, refl, sym, ◌∙◌}
use Prim.Native.Nat.{ℕ}
use lib.IntN.{ℤ}
use Rattle.base.specs.Answer.{Lowest}
use Rattle.base.proofs.Answered.{lowest}
use Rattle.base.specs.declared.units.Stepping.{Stepping}
use Rattle.reach.specs.Rectangle.{reach_rows, block_reach}
use Rattle.reach.specs.declared.reaching.Reach.{Reach}

-- "Where several apply, the lowest number is given", "A number is given exactly when its row says so"
pub block_reach_lowest : (w h : ℕ) (width height : ℤ) (s : Stepping) → Lowest (reach_rows w h width height s)
block_reach_lowest w h width height s = lowest (reach_rows w h width height s) refl

-- any two permitted outcomes are equal
pub block_reach_one : (w h : ℕ) (width height : ℤ) (s : Stepping) (r q : Reach)
    → r ≡ block_reach w h width height s → q ≡ block_reach w h width height s → r ≡ q
block_reach_one w h width height s r q e f = e ∙ sym f
