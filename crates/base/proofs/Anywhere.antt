-- A rule of a constant table that holds past its end too: one computed test, one law for any place. Assumes nothing.
use mathlib.Core.Path.{◌≡◌}
use mathlib.Core.Bool.{Bool, true, ◌&&◌}
use mathlib.Core.List.{List, [], ◌∷◌}
use Prim.Native.Nat.{ℕ, zero, suc}
use lib.ListN.{get_or}
use Rattle.base.proofs.Tests.{and_left, and_right}

-- every entry passes, and so does d, which get_or gives past the end
abbrev pub all : {A : Type 0} → (A → Bool) → A → List A → Bool
all f d [] = f d
all f d (x ∷ xs) = f x && all f d xs

pub anywhere : {A : Type 0} (f : A → Bool) (d : A) (xs : List A) → all f d xs ≡ true → (k : ℕ) → f (get_or xs k d) ≡ true
anywhere f d [] e k = e
anywhere f d (x ∷ xs) e zero = and_left (f x) (all f d xs) e
anywhere f d (x ∷ xs) e (suc k) = anywhere f d xs (and_right (f x) (all f d xs) e) k
