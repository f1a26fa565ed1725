-- A rule of a constant table: one test that is computed over all its entries, one law that reads it at any entry. Assumes nothing.
use mathlib.Core.Path.{◌≡◌, sym, ◌∙◌}
use mathlib.Core.Bool.{Bool, true, ◌&&◌}
use mathlib.Core.List.{List, [], ◌∷◌}
use Prim.Native.Nat.{ℕ, zero, suc, ◌+◌, ◌<◌}
use native.Mathlib.Nat.{add-zero, zero-add, add-suc, suc-add, le_of_suc-le-suc, not-suc-le-zero}
use lib.ListN.{length, get_or}
use Rattle.base.proofs.Tests.{and_left, and_right}

-- the test f of place and entry passes throughout, places counted from i
abbrev pub every : {A : Type 0} → (ℕ → A → Bool) → ℕ → List A → Bool
every f i [] = true
every f i (x ∷ xs) = f i x && every f (suc i) xs

from : {A : Type 0} (f : ℕ → A → Bool) (d : A) (xs : List A) (i : ℕ) → every f i xs ≡ true → (k : ℕ) → k < length xs
    → f (i + k) (get_or xs k d) ≡ true
from f d [] i e k h = absurd (not-suc-le-zero h)
from f d (x ∷ xs) i e zero h = rw (add-zero i) (and_left (f i x) (every f (suc i) xs) e)
from f d (x ∷ xs) i e (suc k) h =
    let shift : i + suc k ≡ suc i + k = add-suc i k ∙ sym (suc-add i k) in
    rw shift (from f d xs (suc i) (and_right (f i x) (every f (suc i) xs) e) k (le_of_suc-le-suc h))

-- the rule at entry k, with d what get_or gives past the table's end
pub entry : {A : Type 0} (f : ℕ → A → Bool) (d : A) (xs : List A) → every f 0 xs ≡ true → (k : ℕ) → k < length xs → f k (get_or xs k d) ≡ true
entry f d xs e k h = rw (zero-add k) at (from f d xs 0 e k h)
