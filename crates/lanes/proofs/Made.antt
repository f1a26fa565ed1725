-- Numbers that are all made before the first is written: the list of those so far. Assumes nothing.
use mathlib.Core.Path.{◌≡◌, ◌∙◌}
use mathlib.Core.List.{List}
use mathlib.Core.Logic.{◌≢◌}
use Prim.Native.Nat.{ℕ, ◌+◌, ◌<◌}
use native.Mathlib.Omega.{arith}
use borrow.Author.Count.{below_more}
use lib.ListN.{length, get_or, set, length-set}
use lib.Seq.{get_or-set_same, get_or-set_other}

-- of n numbers of f the first k are there
pub record Made (n k : ℕ) (f : ℕ → ℕ) (now : List ℕ) : Type 0 where
  pub long : length now ≡ n
  pub is : (j : ℕ) → j < k → get_or now j 0 ≡ f j

pub made_turn : {n k : ℕ} {f : ℕ → ℕ} {now : List ℕ} (v : ℕ) → Made n k f now → k < n → v ≡ f k → Made n (k + 1) f (set now k v)
made_turn {n} {k} {f} {now} v s lt e = record {
  long = length-set now k v ∙ s.long;
  is =
      below_more _ _
      (λ j h. let ne : j ≢ k = omega arith in rw get_or-set_other (s.is j h))
      (let there : k < length now = omega (arith, s.long) in rw get_or-set_same e);
}
