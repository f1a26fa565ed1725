-- Internal: what the code over the lent tables is proved against. Assumes nothing.
use Rattle.std.specs.Prelude.{ℕ, ◌*◌, ◌^◌, ◌≤◌, ◌<◌, ◌≡◌, Bool, true, ◌&&◌, cond, Option, Some, leb, ℤ, length}
use Rattle.std.specs.Int.Signed.{mag}
use Rattle.base.specs.Position.{to_n}
use Rattle.base.specs.declared.units.Mv.{Mv}
use Rattle.records.specs.Tables.{Tables, spot}
use Rattle.records.specs.Records.{up_to, legal_pair, legal_spot}
use Rattle.records.specs.Seen.{frames_of, mvs_of, is_used}
use Rattle.records.specs.declared.geometry.MvRefGeometry.{MvRefGeometry}
use Rattle.records.specs.declared.tables.LentTables.{LentTables}
use Rattle.records.specs.declared.tables.Pairs.{Pairs}

-- a row and a column of cells that the frame has: their cell is small
pub record Placed (g : MvRefGeometry) (y x : ℤ) : Type 0 where
  pub row : to_n y < 8192
  pub cols : to_n g.mi_cols ≤ 8192
  pub col : to_n x < 8192

-- n = mi_rows x mi_cols
abbrev pub cells : MvRefGeometry → ℕ
cells g = to_n g.mi_rows * to_n g.mi_cols

-- a vector of 16-bit components
pub record Narrow (v : Mv) : Type 0 where
  pub row : mag v.row.0 < 2 ^ 15
  pub col : mag v.col.0 < 2 ^ 15

-- r is the vector v, which was read from a table of 16-bit components
pub record Read (v r : Mv) : Type 0 where
  pub is : r ≡ v
  pub narrow : Narrow r

-- tables of frames and vectors that hold n records
pub record PairRoom (n : ℕ) (p : Pairs) : Type 0 where
  pub frames : 2 * n ≤ length p.frames.now
  pub mvs : 4 * n ≤ length p.mvs.now

-- all four tables of the frame
pub record Room (n : ℕ) (l : LentTables) : Type 0 where
  pub modes : n ≤ length l.modes.now
  pub frames : 2 * n ≤ length l.frames.now
  pub mvs : 4 * n ≤ length l.mvs.now
  pub subs : 16 * n ≤ length l.subs.now

-- the previous tables, if the previous frame is used
unfoldable pub PrevRoom : ℕ → Option Pairs → Type 0
PrevRoom n prev = (p : Pairs) → prev ≡ Some p → PairRoom n p

unfoldable pub prev_long_enough : Option Pairs → ℕ → Bool
prev_long_enough prev n = cond (is_used prev) (leb (2 * n) (length (frames_of prev)) && leb (4 * n) (length (mvs_of prev))) true

-- the records of places 0, 1, .., n - 1 are legal
unfoldable pub legal_places : Tables → MvRefGeometry → ℕ → Bool
legal_places t g n = up_to n (λ (k : ℕ). legal_spot t (spot g k))

-- the previous record is legal, if the previous frame is used
unfoldable pub legal_prev : Option Pairs → ℕ → Bool
legal_prev prev i = cond (is_used prev) (legal_pair (frames_of prev) (mvs_of prev) i) true
