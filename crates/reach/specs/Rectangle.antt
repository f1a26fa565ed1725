-- How far a block can reach: the rectangle of a plane that its positions can read, and the call that tells it. Document 02, Req 11.
-- Assumes nothing.
use Rattle.std.specs.Prelude.{ℕ, ◌-◌, ◌≤◌, ◌&&◌, cond, List, [], ◌∷◌, eqb, ℤ, pos, ◌+ℤ◌, ◌-ℤ◌, Result, Ok, Err}
use Rattle.base.specs.Answer.{Row, row, answer, BLOCK, SIZE, START}
use Rattle.base.specs.Number.{between, within}
use Rattle.base.specs.Refused.{number}
use Rattle.base.specs.declared.refusal.Refusal.{Refusal}
use Rattle.base.specs.Position.{to_n, floor16, hold, along}
use Rattle.blocks.specs.Block.{starts}
use Rattle.base.specs.declared.units.Stepping.{Stepping}
use Rattle.reach.specs.declared.reaching.Reach.{Reach}
use Rattle.reach.specs.declared.reaching.Span.{Span}

-- the first column, or row: "floor(start_x / 16) - 3", held into 0..last
unfoldable pub first_read : ℕ → ℤ → ℕ
first_read last start = hold last (floor16 start -ℤ pos 3)

-- the last one, of n positions: "floor((start_x + step_x x (w - 1)) / 16) + 4", held
unfoldable pub last_read : ℕ → ℤ → ℕ → ℕ → ℕ
last_read last start step n = hold last (floor16 (along start step (n - 1)) +ℤ pos 4)

-- the columns "and on the rows worked out alike, each end held into the plane": of w by h positions in a plane of width by height
unfoldable pub readable : ℕ → ℕ → ℕ → ℕ → Stepping → Reach
readable w h width height s =
    record {
      answer = 0;
      first_col = first_read (width - 1) s.start_x.0;
      last_col = last_read (width - 1) s.start_x.0 (to_n s.step_x.0) w;
      first_row = first_read (height - 1) s.start_y.0;
      last_row = last_read (height - 1) s.start_y.0 (to_n s.step_y.0) h;
    }

-- row v and column u are in it
pub record In (r : Reach) (v u : ℕ) : Type 0 where
  pub top : r.first_row ≤ v
  pub bottom : v ≤ r.last_row
  pub left : r.first_col ≤ u
  pub right : u ≤ r.last_col

-- no rectangle
abbrev pub nothing : ℕ → Reach
nothing n = record { answer = n; first_col = 0; last_col = 0; first_row = 0; last_row = 0 }

-- the answer of a call as it crosses to C
abbrev pub reached : Result Span Refusal → Reach
reached (Ok s) = record { answer = 0; first_col = s.first_col; last_col = s.last_col; first_row = s.first_row; last_row = s.last_row }
reached (Err r) = nothing (number r)

-- "with refusals 1, 5, 6 and nothing else": of document 01's rows 1 "w or h not 1..64", 5 "reference plane width or height not 1..65536", and 6, which
-- `starts` quotes
abbrev pub reach_rows : ℕ → ℕ → ℤ → ℤ → Stepping → List Row
reach_rows w h width height s =
    row BLOCK (within 1 64 w && within 1 64 h)
    ∷ row SIZE (between (pos 1) (pos 65536) width && between (pos 1) (pos 65536) height)
    ∷ row START (starts s)
    ∷ []

-- "Give the rectangle itself as a function": zeros beside the number where it is refused
unfoldable pub block_reach : ℕ → ℕ → ℤ → ℤ → Stepping → Reach
block_reach w h width height s =
    let no = answer (reach_rows w h width height s) in cond (eqb no 0) (readable w h (to_n width) (to_n height) s) (nothing no)
