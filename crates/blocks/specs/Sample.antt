-- The prediction of one sample: document 01, 'Samples' (the standard's 8.5.2.4), on signed positions and over a plane that is a function
-- of row and column. Assumes nothing.
use Rattle.std.specs.Prelude.{ℕ, ◌+◌, ◌/◌, Bool, true, false, ℤ}
use Rattle.base.specs.Position.{mod16, place}
use Rattle.taps.specs.Filter.{filtered}

-- horizontal: "at reference row v, sum over t = 0..7 of tap(P mod 16, t) times the sample at row v, column floor(P/16) + t - 3", held into 0..X
unfoldable pub across : ℕ → (ℕ → ℕ → ℤ) → (ℕ → ℕ → ℕ) → ℕ → ℕ → ℤ → ℕ
across max tap plane X v P = filtered max (tap (mod16 P)) (λ (t : ℕ). plane v (place X P t))

-- vertical: "the same over eight horizontal results at rows floor(Q/16) + t - 3, with the taps of Q mod 16", rows held into 0..Y
unfoldable pub sample : ℕ → (ℕ → ℕ → ℤ) → (ℕ → ℕ → ℕ) → ℕ → ℕ → ℤ → ℤ → ℕ
sample max tap plane X Y P Q = filtered max (tap (mod16 Q)) (λ (t : ℕ). across max tap plane X (place Y Q t) P)

-- compound: "(a + b + 1) / 2, rounded down", where it is asked for
unfoldable pub blend : Bool → ℕ → ℕ → ℕ
blend true a b = (a + b + 1) / 2
blend false a b = a
