-- Sums of legal components stay small, and the mean of a list is the definition's of two vectors and of four. Assumes nothing.
use mathlib.Core.Path.{◌≡◌}
use mathlib.Core.Bool.{true}
use mathlib.Core.List.{List, [], ◌∷◌}
use Prim.Native.Nat.{ℕ, zero, suc, ◌+◌, ◌*◌, ◌≤◌, ◌<◌}
use native.Mathlib.Omega.{arith}
use lib.IntN.{ℤ, nat_abs, ◌+ℤ◌, +ℤ_idl}
use lib.ListN.{get_or}
use Rattle.base.specs.Vector.{zero_mv, legal_mv}
use Rattle.base.specs.declared.units.Mv.{Mv}
use Rattle.base.proofs.Bd.{Bd, bd, abs-add}
use Rattle.base.proofs.Legal.{row_bd, col_bd}
use Rattle.selection.specs.Select.{rounded, halved, quartered, total, mean, pair, quad}

-- the first n of a list are legal
abbrev pub LegalTo : ℕ → List Mv → Type 0
LegalTo n of = (k : ℕ) → k < n → legal_mv (get_or of k zero_mv) ≡ true

within : (f : Mv → ℤ) (of : List Mv) (n : ℕ) → ((k : ℕ) → k < n → nat_abs (f (get_or of k zero_mv)) ≤ 32767)
    → (k : ℕ) → k ≤ n → nat_abs (total f of k) ≤ k * 32767
unfolding total
within f of n h zero le = omega arith
within f of n h (suc k) le =
    omega (arith, abs-add (total f of k) (f (get_or of k zero_mv)), within f of n h k (omega arith), h k (omega arith))

pub total_more : (f : Mv → ℤ) (of : List Mv) (k : ℕ) → total f of k +ℤ f (get_or of k zero_mv) ≡ total f of (k + 1)
unfolding total
total_more f of k = let e : k + 1 ≡ suc k = omega arith in rw e

pub rows_bd : (of : List Mv) (n : ℕ) → LegalTo n of → n ≤ 4 → (k : ℕ) → k ≤ n → Bd 131068 (total (λ v. v.row.0) of k)
rows_bd of n legal few k le = bd _ (omega (arith, within (λ v. v.row.0) of n (λ i h. (row_bd (get_or of i zero_mv) (legal i h)).le) k le))

pub cols_bd : (of : List Mv) (n : ℕ) → LegalTo n of → n ≤ 4 → (k : ℕ) → k ≤ n → Bd 131068 (total (λ v. v.col.0) of k)
cols_bd of n legal few k le = bd _ (omega (arith, within (λ v. v.col.0) of n (λ i h. (col_bd (get_or of i zero_mv) (legal i h)).le) k le))

pub legal_pair : (a b : Mv) → legal_mv a ≡ true → legal_mv b ≡ true → LegalTo 2 (a ∷ b ∷ [])
legal_pair a b e f zero h = e
legal_pair a b e f (suc zero) h = f
legal_pair a b e f (suc (suc k)) h = absurd (omega arith)

pub legal_quad : (a b c d : Mv) → legal_mv a ≡ true → legal_mv b ≡ true → legal_mv c ≡ true → legal_mv d ≡ true → LegalTo 4 (a ∷ b ∷ c ∷ d ∷ [])
legal_quad a b c d e f g h zero lt = e
legal_quad a b c d e f g h (suc zero) lt = f
legal_quad a b c d e f g h (suc (suc zero)) lt = g
legal_quad a b c d e f g h (suc (suc (suc zero))) lt = h
legal_quad a b c d e f g h (suc (suc (suc (suc k)))) lt = absurd (omega arith)

pub mean_pair : (a b : Mv) → mean 2 (a ∷ b ∷ []) ≡ pair a b
unfolding mean total rounded pair halved
mean_pair a b = rw (+ℤ_idl a.row.0, +ℤ_idl a.col.0)

pub mean_quad : (a b c d : Mv) → mean 4 (a ∷ b ∷ c ∷ d ∷ []) ≡ quad a b c d
unfolding mean total rounded quad quartered
mean_quad a b c d = rw (+ℤ_idl a.row.0, +ℤ_idl a.col.0)
