-- A row of results, however it is computed, is the definition's on lifted positions: one phase, phase 0, and over a line of held samples.
-- Assumes nothing.
use mathlib.Core.Path.{◌≡◌, refl, sym, ap, ◌∙◌}
use mathlib.Core.List.{List}
use Prim.Native.Nat.{ℕ, ◌+◌, ◌-◌, ◌*◌, ◌/◌, ◌%◌, ◌<◌, ◌≤◌, min}
use native.Mathlib.Nat.{mul-le-mul_left, zero-mul, add-zero}
use native.Mathlib.Omega.{arith}
use lib.IntN.{ℤ}
use lib.ListN.{length, get_or}
use Rattle.base.specs.Paint.{fill}
use Rattle.base.proofs.Painted.{fill_same, fill_at}
use Rattle.taps.specs.Taps.{tap}
use Rattle.taps.specs.Kernel.{apart, ran, ran_rows, stepped, clipped, seat, listed, level, levels, held_from, onward, mean_of}
use Rattle.taps.proofs.Filtered.{filtered_same, filtered_whole}

-- one phase, in steps of 16
pub ran_stepped : (max : ℕ) (taps : ℕ → ℕ → ℤ) (l : List ℕ) (d phase c : ℕ) → phase < 16 → ran max (taps phase) l 1 d c ≡ stepped max taps l d phase 16 c
unfolding ran stepped
ran_stepped max taps l d phase c p16 =
    let e : (phase + 16 * c) % 16 ≡ phase = omega arith in
    let f : (phase + 16 * c) / 16 ≡ c = omega arith in
    rw (e, f)

-- the first of several rows
pub first_row : (max : ℕ) (f : ℕ → ℤ) (l : List ℕ) (n b line c : ℕ) → ran_rows max f l n b line 0 c ≡ ran max f l n b c
unfolding ran_rows
first_row max f l n b line c = rw (zero-mul, add-zero) refl

-- phase 0, in steps of 16
pub clipped_stepped : (max filter : ℕ) (l : List ℕ) (d c : ℕ) → filter < 4 → clipped max l (d + 3) c ≡ stepped max (tap filter) l d 0 16 c
unfolding clipped stepped apart
clipped_stepped max filter l d c f4 =
    let e : (0 + 16 * c) % 16 ≡ 0 = omega arith in
    let f : (0 + 16 * c) / 16 ≡ c = omega arith in
    let g : d + 3 + c ≡ d + c + 1 * 3 = omega arith in
    rw (e, f, g) (sym (filtered_whole max filter (apart l 1 (d + c)) f4))

-- a line that has the held samples from the start's column on
pub line_is : (max : ℕ) (taps : ℕ → ℕ → ℤ) (row line : List ℕ) (last start step w d : ℕ)
    → ((j : ℕ) → j < (start % 16 + step * (w - 1)) / 16 + 8 → get_or line (d + j) 0 ≡ held_from row last (start / 16) j)
    → (c : ℕ) → c < w → stepped max taps line d (start % 16) step c ≡ levels max taps row last start step c
unfolding stepped levels level apart held_from seat
line_is max taps row line last start step w d same c cw =
    let far : step * c ≤ step * (w - 1) = mul-le-mul_left step (omega arith) in
    let phase : (start % 16 + step * c) % 16 ≡ (start + step * c) % 16 = omega arith in
    let past : ℕ = (start % 16 + step * c) / 16 in
    filtered_same max _ _ _ _
    (λ t t8.
    let e : d + past + 1 * t ≡ d + (past + t) = omega arith in
    let f : start / 16 + (past + t) ≡ (start + step * c) / 16 + t = omega arith in (
      ap (λ (m : ℕ). taps m t) phase,
      ap (λ (k : ℕ). get_or line k 0) e ∙ same (past + t) (omega arith) ∙ ap (λ (k : ℕ). get_or row (min (k - 200003) last) 0) f,
    ))

-- phase 0 down is the fourth row
pub down_whole : (max filter : ℕ) (room : List ℕ) (b c : ℕ) → filter < 4 → clipped max room (b + 192) c ≡ ran max (tap filter 0) room 64 b c
unfolding clipped ran apart
down_whole max filter room b c f4 =
    let e : b + 192 + c ≡ b + c + 64 * 3 = omega arith in
    rw e (sym (filtered_whole max filter (apart room 64 (b + c)) f4))

-- a row whose numbers are taken from a line that was filled
pub mean_filled : (out line : List ℕ) (at w : ℕ) (f : ℕ → ℕ) (m : List ℕ) → w ≤ length line
    → fill m at w (mean_of out at (onward (fill line 0 w f) 0)) ≡ fill m at w (mean_of out at f)
unfolding mean_of onward
mean_filled out line at w f m long = fill_same m at w _ _ (λ c cw. rw (fill_at line 0 w f (omega arith) c cw))

-- a row from its column n on
pub levels_on : (max : ℕ) (taps : ℕ → ℕ → ℤ) (row : List ℕ) (last start step n c : ℕ)
    → levels max taps row last (start + step * n) step c ≡ levels max taps row last start step (n + c)
unfolding levels
levels_on max taps row last start step n c =
    let e : start + step * n + step * c ≡ start + step * (n + c) = omega arith in
    ap (λ (x : ℕ). level max taps (listed row) last x) e
