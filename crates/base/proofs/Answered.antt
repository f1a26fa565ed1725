-- A table of tests whose numbers rise answers the lowest number that applies, and 0 exactly where none does. Assumes nothing.
use mathlib.Core.Path.{◌≡◌, refl, sym, subst, ◌∙◌}
use mathlib.Core.Bool.{Bool, true, false}
use mathlib.Core.List.{List, [], ◌∷◌}
use mathlib.Core.Logic.{◌⊎◌, inl, inr, ⊎_elim}
use Prim.Native.Nat.{ℕ, suc, ◌≤◌, ◌<◌}
use native.Mathlib.Omega.{arith}
use borrow.Author.Tests.{ltb-true}
use lib.Dec.{ltb}
use Rattle.base.specs.Answer.{Row, unless, answer, Applies, rises, Lowest}
use Rattle.base.proofs.Tests.{clash, and_left, and_right}

-- a row that did not answer passed its test
pub unless_zero : (n : ℕ) (t : Bool) (rest : ℕ) → unless (suc n) t rest ≡ 0 → (t ≡ true) × (rest ≡ 0)
unfolding unless
unless_zero n true rest e = (refl, e)
unless_zero n false rest e = absurd (omega arith)

-- the row answers, or the rows after it do
step : (k : ℕ) (t : Bool) (rest : ℕ) → ((k ≡ unless k t rest) × (t ≡ false)) ⊎ ((rest ≡ unless k t rest) × (t ≡ true))
unfolding unless
step k true rest = inr (refl, refl)
step k false rest = inl (refl, refl)

-- what applies lies above what the numbers rise from
above : (m : ℕ) (rows : List Row) → rises m rows ≡ true → (n : ℕ) → Applies n rows → m < n
above m [] e n a = absurd a
above m (r ∷ rows) e n a =
    let first = ltb-true m r.number (and_left (ltb m r.number) (rises r.number rows) e) in
    let later = and_right (ltb m r.number) (rises r.number rows) e in
    ⊎_elim (λ b. omega (arith, first, b.0)) (λ b. omega (arith, first, above r.number rows later n b)) a

none : (m : ℕ) (rows : List Row) → rises m rows ≡ true → answer rows ≡ 0 → (n : ℕ) → Applies n rows → ⊥
none m [] e z n a = a
none m (r ∷ rows) e z n a =
    let first = ltb-true m r.number (and_left (ltb m r.number) (rises r.number rows) e) in
    let later = and_right (ltb m r.number) (rises r.number rows) e in
    ⊎_elim
    (λ s. omega (arith, first, s.0))
    (λ s. ⊎_elim (λ b. clash (sym b.1 ∙ s.1)) (λ b. none r.number rows later (s.0 ∙ z) n b) a)
    (step r.number r.passes (answer rows))

some : (rows : List Row) → (answer rows ≡ 0 → ⊥) → Applies (answer rows) rows
some [] d = absurd (d refl)
some (r ∷ rows) d =
    ⊎_elim
    (λ s. inl s)
    (λ s. inr (subst (λ (n : ℕ). Applies n rows) s.0 (some rows (λ z. d (sym s.0 ∙ z)))))
    (step r.number r.passes (answer rows))

least : (m : ℕ) (rows : List Row) → rises m rows ≡ true → (n : ℕ) → Applies n rows → answer rows ≤ n
least m [] e n a = absurd a
least m (r ∷ rows) e n a =
    let later = and_right (ltb m r.number) (rises r.number rows) e in
    ⊎_elim
    (λ s. ⊎_elim (λ b. omega (arith, s.0, b.0)) (λ b. omega (arith, s.0, above r.number rows later n b)) a)
    (λ s. ⊎_elim (λ b. clash (sym b.1 ∙ s.1)) (λ b. omega (arith, s.0, least r.number rows later n b)) a)
    (step r.number r.passes (answer rows))

-- the law that every call's table gets by naming its rows: `lowest rows refl`
pub lowest : (rows : List Row) → rises 0 rows ≡ true → Lowest rows
lowest rows e = record { accepted = none 0 rows e; refused = some rows; lowest = least 0 rows e }
