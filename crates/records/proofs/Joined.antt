-- Tests joined by `&&`: where all pass together, each passes. Assumes nothing.
use mathlib.Core.Path.{◌≡◌, refl}
use mathlib.Core.Bool.{Bool, true, ◌&&◌}
use mathlib.Core.List.{List, [], ◌∷◌}
use Prim.Native.Nat.{ℕ, zero, suc}
use lib.ListN.{get_or}
use Rattle.base.proofs.Tests.{and_left, and_right}

-- t && t1 && t2 && ..
abbrev pub joined : Bool → List Bool → Bool
joined t [] = t
joined t (t1 ∷ ts) = joined (t && t1) ts

-- test k, counted from 0
pub passed : (t : Bool) (ts : List Bool) → joined t ts ≡ true → (k : ℕ) → get_or (t ∷ ts) k true ≡ true
passed t [] e zero = e
passed t [] e (suc k) = refl
passed t (t1 ∷ ts) e zero = and_left t t1 (passed (t && t1) ts e zero)
passed t (t1 ∷ ts) e (suc zero) = and_right t t1 (passed (t && t1) ts e zero)
passed t (t1 ∷ ts) e (suc (suc k)) = passed (t && t1) ts e (suc k)
