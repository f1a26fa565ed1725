-- A number that no sample of a run is above, from the numbers of its parts. Assumes nothing.
use mathlib.Core.Path.{◌≡◌, subst}
use mathlib.Core.List.{List}
use Prim.Native.Nat.{ℕ, ◌+◌, ◌-◌, ◌≤◌, min}
use native.Mathlib.Omega.{arith}
use mathlib.Core.Logic.{⊎_elim}
use lib.ListN.{get_or}
use Rattle.base.proofs.Painted.{lt_or_ge}
use Rattle.taps.specs.Kernel.{UpTo}

-- the next n of m samples, or the last n
pub top_turn : {v e u : ℕ} {l : List ℕ} {b n m : ℕ} (c k : ℕ) → k ≡ min c (m - n) → n ≤ m → (v ≤ u) × (e ≤ u) → UpTo v l b (min c m) → UpTo e l (b + k) n
    → UpTo u l b (min (c + n) m)
top_turn {v} {e} {u} {l} {b} {n} {m} c k at long top before more = record {
  le = λ j lt.
      ⊎_elim
      (λ first. let x = before.le j first in omega arith)
      (λ later.
      let place : b + k + (j - k) ≡ b + j = omega arith in
      let x = subst (λ (i : ℕ). get_or l i 0 ≤ e) place (more.le (j - k) (omega arith)) in
      omega (arith, x))
      (lt_or_ge j (min c m));
}
