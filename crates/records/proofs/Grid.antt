-- What an accepted grid says: the cells of the frame are few, and a place that is inside is one of them. Assumes nothing.
use mathlib.Core.Path.{◌≡◌, refl}
use mathlib.Core.Bool.{Bool, true, false, ◌&&◌, cond}
use mathlib.Core.List.{[], ◌∷◌}
use Prim.Native.Nat.{ℕ, ◌+◌, ◌*◌, ◌≤◌, ◌<◌}
use native.Mathlib.Nat.{mul-le-mul, mul-le-mul_right, suc-mul}
use native.Mathlib.Omega.{arith}
use borrow.Author.Tests.{leb-true, ltb-true}
use lib.Dec.{T}
use lib.IntN.{ℤ, pos, negsuc, nat_abs, ◌+ℤ◌}
use lib.ListN.{get_or}
use lib.Signed.{le_z, lt_z, non_neg}
use Rattle.base.specs.Number.{between}
use Rattle.base.specs.Position.{to_n}
use Rattle.base.proofs.Tests.{clash, and_right, between_pos, le_z-up}
use Rattle.records.proofs.Joined.{passed}
use Rattle.places.specs.Places.{offset}
use Rattle.records.specs.Tables.{grid_ok, inside, cell_at, spot_at, spot, own}
use Rattle.records.specs.Lent.{Placed, cells}
use Rattle.records.specs.declared.geometry.MvRefGeometry.{MvRefGeometry}
use Rattle.std.specs.Prelude.{Some, None}

-- ---- signed tests, said of unsigned numbers

pub le-to_n : (a b : ℤ) → le_z a b ≡ true → to_n a ≤ to_n b
le-to_n (pos a) (pos b) e = leb-true a b e
le-to_n (pos a) (negsuc b) e = clash e
le-to_n (negsuc a) b e = omega arith

lt-to_n : (a b : ℤ) → T (non_neg a) → lt_z a b ≡ true → to_n a < to_n b
lt-to_n (pos a) (pos b) t e = ltb-true a b e
lt-to_n (pos a) (negsuc b) t e = clash e
lt-to_n (negsuc a) b t e = absurd t

abs-to_n : (a : ℤ) → T (non_neg a) → nat_abs a ≡ to_n a
abs-to_n (pos a) t = refl
abs-to_n (negsuc a) t = absurd t

-- at least 0
up : (a : ℤ) → le_z (pos 0) a ≡ true → T (non_neg a)
up a e = (le_z-up (pos 0) a tt e).0

-- ---- cells

pub cell_below : (rows cols row col : ℕ) → row < rows → col < cols → row * cols + col < rows * cols
cell_below rows cols row col hr hc = omega (arith, mul-le-mul_right cols hr, suc-mul row cols)

pub cell_small : {a b : ℕ} → a ≤ 8192 → b ≤ 8192 → a * b ≤ 67108864
cell_small ha hb = mul-le-mul ha hb

-- ---- an accepted grid

pub record Grid (g : MvRefGeometry) : Type 0 where
  pub rows : to_n g.mi_rows ≤ 8192
  pub cols : to_n g.mi_cols ≤ 8192
  pub row : to_n g.mi_row < to_n g.mi_rows
  pub col : to_n g.mi_col < to_n g.mi_cols
  pub rows_abs : nat_abs g.mi_rows ≤ 8192
  pub cols_abs : nat_abs g.mi_cols ≤ 8192
  pub row_abs : nat_abs g.mi_row ≤ 8192
  pub col_abs : nat_abs g.mi_col ≤ 8192
  pub rows_up : T (non_neg g.mi_rows)
  pub cols_up : T (non_neg g.mi_cols)
  pub row_up : T (non_neg g.mi_row)
  pub col_up : T (non_neg g.mi_col)
  pub start : T (non_neg g.mi_col_start)
  pub end : to_n g.mi_col_end ≤ to_n g.mi_cols

pub grid : (g : MvRefGeometry) → grid_ok g ≡ true → Grid g
unfolding grid_ok between
grid g e =
    let rows = g.mi_rows in
    let cols = g.mi_cols in
    let end = g.mi_col_end in
    let test = passed (le_z (pos 1) rows && le_z rows (pos 8192))
    ((le_z (pos 1) cols && le_z cols (pos 8192))
    ∷ le_z (pos 0) g.mi_row ∷ lt_z g.mi_row rows ∷ le_z (pos 0) g.mi_col_start
    ∷ le_z g.mi_col_start g.mi_col ∷ lt_z g.mi_col end ∷ le_z end cols ∷ []) e in
    let start = up g.mi_col_start (test 4) in
    let top = up g.mi_row (test 2) in
    let left = (le_z-up g.mi_col_start g.mi_col start (test 5)).0 in
    let past = le-to_n end cols (test 7) in
    let many = le-to_n rows (pos 8192) (and_right (le_z (pos 1) rows) (le_z rows (pos 8192)) (test 0)) in
    let wide = le-to_n cols (pos 8192) (and_right (le_z (pos 1) cols) (le_z cols (pos 8192)) (test 1)) in
    let above = lt-to_n g.mi_row rows top (test 3) in
    let before = lt-to_n g.mi_col end left (test 6) in
    record {
      rows = many;
      cols = wide;
      row = above;
      col = omega arith;
      rows_abs = (between_pos 1 8192 rows (test 0)).1;
      cols_abs = (between_pos 1 8192 cols (test 1)).1;
      row_abs = omega (arith, abs-to_n g.mi_row top);
      col_abs = omega (arith, abs-to_n g.mi_col left);
      rows_up = (between_pos 1 8192 rows (test 0)).0;
      cols_up = (between_pos 1 8192 cols (test 1)).0;
      row_up = top;
      col_up = left;
      start = start;
      end = past;
    }

-- ---- a place that is inside

module _ (g : MvRefGeometry) (y x : ℤ) (i : inside g y x ≡ true) where
  test : (k : ℕ) → get_or (le_z (pos 0) y ∷ lt_z y g.mi_rows ∷ le_z g.mi_col_start x ∷ lt_z x g.mi_col_end ∷ []) k true ≡ true
  unfolding inside
  test = passed (le_z (pos 0) y) (lt_z y g.mi_rows ∷ le_z g.mi_col_start x ∷ lt_z x g.mi_col_end ∷ []) i

  in_rows : to_n y < to_n g.mi_rows
  in_rows = lt-to_n y g.mi_rows (up y (test 0)) (test 1)

  in_cols : Grid g → to_n x < to_n g.mi_cols
  in_cols ok =
      let left = (le_z-up g.mi_col_start x ok.start (test 2)).0 in
      omega (arith, lt-to_n x g.mi_col_end left (test 3), ok.end)

pub placed : (g : MvRefGeometry) (y x : ℤ) → grid_ok g ≡ true → inside g y x ≡ true → Placed g y x
placed g y x e i =
    let ok = grid g e in
    record { row = omega (arith, in_rows g y x i, ok.rows); cols = ok.cols; col = omega (arith, in_cols g y x i ok, ok.cols) }

pub own_placed : (g : MvRefGeometry) → grid_ok g ≡ true → Placed g g.mi_row g.mi_col
own_placed g e =
    let ok = grid g e in record { row = omega (arith, ok.row, ok.rows); cols = ok.cols; col = omega (arith, ok.col, ok.cols) }

pub own_in : (g : MvRefGeometry) → grid_ok g ≡ true → own g < cells g
own_in g e =
    let ok = grid g e in
    cell_below (to_n g.mi_rows) (to_n g.mi_cols) (to_n g.mi_row) (to_n g.mi_col) ok.row ok.col

at_in : (g : MvRefGeometry) (y x : ℤ) (t : Bool) → inside g y x ≡ t → grid_ok g ≡ true
    → (i : ℕ) → cond t (Some (cell_at g y x)) None ≡ Some i → i < cells g
at_in g y x true e ok i f =
    let same : cell_at g y x ≡ i = cc in
    let below = cell_below (to_n g.mi_rows) (to_n g.mi_cols) (to_n y) (to_n x) (in_rows g y x e) (in_cols g y x e (grid g ok)) in
    omega arith
at_in g y x false e ok i f = let z : ◌≡◌ {A = ℕ} 0 1 = cc in absurd (omega arith)

-- the cell of a place is a cell of the frame
pub spot_in : (g : MvRefGeometry) (k i : ℕ) → grid_ok g ≡ true → spot g k ≡ Some i → i < cells g
unfolding spot spot_at
spot_in g k i ok e =
    let y = g.mi_row +ℤ offset g.mi_size k 0 in
    let x = g.mi_col +ℤ offset g.mi_size k 1 in
    at_in g y x (inside g y x) refl ok i e
