-- Document 01, 'Answer numbers': the numbers with their names, and what a table of tests answers.
-- Assumes nothing.
use Rattle.std.specs.Prelude.{ℕ, ◌≤◌, ◌≡◌, Bool, true, false, ◌&&◌, List, [], ◌∷◌, ◌⊎◌, ltb}

abbrev pub ACCEPTED : ℕ
ACCEPTED = 0

abbrev pub BLOCK : ℕ
BLOCK = 1

abbrev pub GRID : ℕ
GRID = 2

abbrev pub TARGET : ℕ
TARGET = 3

abbrev pub FILTER : ℕ
FILTER = 4

abbrev pub SIZE : ℕ
SIZE = 5

abbrev pub START : ℕ
START = 6

abbrev pub SHORT : ℕ
SHORT = 7

abbrev pub RECORD : ℕ
RECORD = 8

abbrev pub VECTOR : ℕ
VECTOR = 9

-- a row of a call's table: its number is given when its test fails
pub record Row : Type 0 where
  pub number : ℕ
  pub passes : Bool

abbrev pub row : ℕ → Bool → Row
row n t = record { number = n; passes = t }

-- n, unless the test passes: then what the later rows answer
unfoldable pub unless : ℕ → Bool → ℕ → ℕ
unless n true rest = rest
unless n false rest = n

-- "Where several apply, the lowest number is given": rows stand in the order of their numbers, and the first whose test fails answers
abbrev pub answer : List Row → ℕ
answer [] = ACCEPTED
answer (r ∷ rows) = unless r.number r.passes (answer rows)

-- n is the number of a row whose test fails
abbrev pub Applies : ℕ → List Row → Type 0
Applies n [] = ⊥
Applies n (r ∷ rows) = ((r.number ≡ n) × (r.passes ≡ false)) ⊎ Applies n rows

-- the rows' numbers rise, all of them above n
abbrev pub rises : ℕ → List Row → Bool
rises n [] = true
rises n (r ∷ rows) = ltb n r.number && rises r.number rows

-- "A number is given exactly when its row says so": 0 where no row applies, else a number that applies, and no lower one does
pub record Lowest (rows : List Row) : Type 0 where
  pub accepted : answer rows ≡ 0 → (n : ℕ) → Applies n rows → ⊥
  pub refused : (answer rows ≡ 0 → ⊥) → Applies (answer rows) rows
  pub lowest : (n : ℕ) → Applies n rows → answer rows ≤ n
