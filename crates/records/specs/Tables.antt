-- The lent tables and where a place looks in them: document 01, 'Lent tables' and 'Vectors'. Assumes nothing.
use Rattle.std.specs.Prelude.{ℕ, ◌+◌, ◌*◌, Bool, true, ◌&&◌, cond, Option, Some, None, List, leb, ℤ, pos, ◌+ℤ◌, get_or, length}
use Rattle.std.specs.Int.Signed.{le_z, lt_z}
use Rattle.base.specs.Number.{between}
use Rattle.base.specs.Position.{to_n}
use Rattle.base.specs.Vector.{mv}
use Rattle.base.specs.declared.units.Mv.{Mv}
use Rattle.places.specs.Places.{offset}
use Rattle.records.specs.declared.geometry.MvRefGeometry.{MvRefGeometry}

-- the six lent tables
pub record Tables : Type 0 where
  pub modes : List ℕ
  pub frames : List ℤ
  pub mvs : List ℤ
  pub subs : List ℤ
  pub prev_frames : List ℤ
  pub prev_mvs : List ℤ

abbrev pub tables : List ℕ → List ℤ → List ℤ → List ℤ → List ℤ → List ℤ → Tables
tables m f v s pf pv = record { modes = m; frames = f; mvs = v; subs = s; prev_frames = pf; prev_mvs = pv }

-- "cell i = row x mi_cols + column"
abbrev pub cell_at : MvRefGeometry → ℤ → ℤ → ℕ
cell_at g row col = to_n row * to_n g.mi_cols + to_n col

-- "frames 2n, at 2i + list"
abbrev pub frame_at : List ℤ → ℕ → ℕ → ℤ
frame_at frames i list = get_or frames (2 * i + list) (pos 0)

-- "vectors 4n, row before column"
abbrev pub mv_at : List ℤ → ℕ → ℕ → Mv
mv_at mvs i list = mv (get_or mvs (4 * i + 2 * list) (pos 0)) (get_or mvs (4 * i + 2 * list + 1) (pos 0))

-- "sub-vectors 16n, at ((2i + list) x 4 + sub-block) x 2"
abbrev pub sub_at : List ℤ → ℕ → ℕ → ℕ → Mv
sub_at subs i list b = mv (get_or subs (((2 * i + list) * 4 + b) * 2) (pos 0)) (get_or subs (((2 * i + list) * 4 + b) * 2 + 1) (pos 0))

-- row 2: mi_rows, mi_cols 1..8192; 0 <= mi_row < mi_rows; 0 <= tile start <= mi_col < tile end <= mi_cols
unfoldable pub grid_ok : MvRefGeometry → Bool
grid_ok g =
    between (pos 1) (pos 8192) g.mi_rows && between (pos 1) (pos 8192) g.mi_cols
    && le_z (pos 0) g.mi_row && lt_z g.mi_row g.mi_rows
    && le_z (pos 0) g.mi_col_start && le_z g.mi_col_start g.mi_col
    && lt_z g.mi_col g.mi_col_end && le_z g.mi_col_end g.mi_cols

-- row 7, with n = mi_rows x mi_cols: "previous frames 2n and previous vectors 4n, needed only when the previous frame is used"
unfoldable pub long_enough : Tables → MvRefGeometry → Bool → Bool
long_enough t g use_prev =
    let n = to_n g.mi_rows * to_n g.mi_cols in
    leb n (length t.modes) && leb (2 * n) (length t.frames) && leb (4 * n) (length t.mvs) && leb (16 * n) (length t.subs)
    && cond use_prev (leb (2 * n) (length t.prev_frames) && leb (4 * n) (length t.prev_mvs)) true

-- Inside: "row 0..mi_rows-1 and column in the tile"
unfoldable pub inside : MvRefGeometry → ℤ → ℤ → Bool
inside g row col =
    le_z (pos 0) row && lt_z row g.mi_rows && le_z g.mi_col_start col && lt_z col g.mi_col_end

-- the cell of a row and a column, if it is inside
unfoldable pub spot_at : MvRefGeometry → ℤ → ℤ → Option ℕ
spot_at g row col = cond (inside g row col) (Some (cell_at g row col)) None

-- place k of the block, counted from 0: document 01 counts from one
unfoldable pub spot : MvRefGeometry → ℕ → Option ℕ
spot g k = spot_at g (g.mi_row +ℤ offset g.mi_size k 0) (g.mi_col +ℤ offset g.mi_size k 1)

-- the block's own cell, where its previous record stands
abbrev pub own : MvRefGeometry → ℕ
own g = cell_at g g.mi_row g.mi_col
