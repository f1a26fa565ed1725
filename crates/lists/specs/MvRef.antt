-- The search with its clamp, the sub-8x8 list, the best vectors: document 01, 'Vectors' (the standard's 6.5.1 to 6.5.14). Assumes nothing.
use Rattle.std.specs.Prelude.{ℕ, Bool, Result, Ok, Err, ◌&&◌, cond, List, [], ◌∷◌, leb, ltb, eqb, ℤ, pos, negsuc, nat_abs, ◌*ℤ◌, get_or}
use Rattle.std.specs.Int.Signed.{quot_z}
use Rattle.base.specs.Answer.{Row, row, answer, BLOCK, GRID, TARGET, SHORT, RECORD, VECTOR}
use Rattle.base.specs.Number.{between}
use Rattle.base.specs.Vector.{mv, zero_mv, legal_mv}
use Rattle.base.specs.Refused.{number}
use Rattle.base.specs.declared.refusal.Refusal.{Refusal}
use Rattle.base.specs.declared.units.Mv.{Mv}
use Rattle.records.specs.Tables.{Tables, grid_ok, long_enough}
use Rattle.records.specs.Records.{legal_records}
use Rattle.candidates.specs.Offers.{none, offers}
use Rattle.candidates.specs.Search.{candidates, context}
use Rattle.records.specs.declared.geometry.MvRefGeometry.{MvRefGeometry}
use Rattle.candidates.specs.declared.find.Found.{Found}
use Rattle.candidates.specs.declared.held.Held.{Held}
use Rattle.clamping.specs.Sizes.{high, wide}
use Rattle.lists.specs.declared.mv_ref.Best.{Best}
use Rattle.lists.specs.declared.mv_ref.MvRefs.{MvRefs}
use Rattle.lists.specs.declared.mv_ref.MvPair.{MvPair}
unfoldable pub use Rattle.clamping.specs.Border.{clamp_part}

-- ---- the clamp of this file, one definition over the border

unfoldable pub clamp_ref : ℤ → MvRefGeometry → Mv → Mv
clamp_ref border g v =
    mv
    (clamp_part border g.mi_rows (high g.mi_size) g.mi_row v.row.0)
    (clamp_part border g.mi_cols (wide g.mi_size) g.mi_col v.col.0)

-- ---- find_mv_refs

-- rows 1 ("block size above 12; sub-block not -1..3 in the search"), 2, 3, 7 and 8
abbrev pub search_rows : Tables → MvRefGeometry → ℤ → ℤ → Bool → List Row
search_rows t g target block use_prev =
    row BLOCK (leb g.mi_size 12 && between (negsuc 0) (pos 3) block)
    ∷ row GRID (grid_ok g)
    ∷ row TARGET (between (pos 1) (pos 3) target)
    ∷ row SHORT (long_enough t g use_prev)
    ∷ row RECORD (legal_records t g use_prev)
    ∷ []

-- "Both are clamped afterwards", "The search uses border 128"
unfoldable pub find_mv_refs : Tables → MvRefGeometry → ℤ → ℤ → List Bool → Bool → MvRefs
find_mv_refs t g target block bias use_prev =
    let no = answer (search_rows t g target block use_prev) in
    let held = candidates t g target block bias use_prev in
    record {
      answer = no;
      first = cond (eqb no 0) (clamp_ref (pos 128) g held.first) zero_mv;
      second = cond (eqb no 0) (clamp_ref (pos 128) g held.second) zero_mv;
      context = cond (eqb no 0) (context t g) 0;
    }

-- ---- append_sub8x8_mvs

-- the block's four vectors in one list, by sub-block
abbrev pub sub_mv : List Mv → ℕ → Mv
sub_mv m b = get_or m b zero_mv

unfoldable pub legal_four : List Mv → Bool
legal_four m = legal_mv (sub_mv m 0) && legal_mv (sub_mv m 1) && legal_mv (sub_mv m 2) && legal_mv (sub_mv m 3)

-- the search's rows, row 1 with "sub-block not -1..3 in the search or 0..3 elsewhere", and row 9
abbrev pub append_rows : Tables → MvRefGeometry → ℤ → ℕ → List Mv → Bool → List Row
append_rows t g target block m use_prev =
    row BLOCK (leb g.mi_size 12 && leb block 3)
    ∷ row GRID (grid_ok g)
    ∷ row TARGET (between (pos 1) (pos 3) target)
    ∷ row SHORT (long_enough t g use_prev)
    ∷ row RECORD (legal_records t g use_prev)
    ∷ row VECTOR (legal_four m)
    ∷ []

-- "1 and 2 take block vector 0 first, 3 takes block vector 2, then 1, then 0": what stands before the search's pair
unfoldable pub before : ℕ → List Mv → List Mv → List Mv
before block m pair = cond (leb block 2) (sub_mv m 0 ∷ pair) (sub_mv m 2 ∷ sub_mv m 1 ∷ sub_mv m 0 ∷ pair)

-- "sub-block 0 takes the search's pair"; else "Each further one is stored only if it differs from the first. Then the search's pair by the
-- same test. What is missing is zero"
unfoldable pub sub_list : ℕ → List Mv → Mv → Mv → Held
sub_list block m first second =
    cond (eqb block 0) (record { count = 2; first = first; second = second }) (offers none (before block m (first ∷ second ∷ [])))

unfoldable pub append_mvs : Tables → MvRefGeometry → ℤ → ℕ → List Mv → List Bool → Bool → MvPair
append_mvs t g target block m bias use_prev =
    let no = answer (append_rows t g target block m use_prev) in
    let held = candidates t g target (pos block) bias use_prev in
    let list = sub_list block m (clamp_ref (pos 128) g held.first) (clamp_ref (pos 128) g held.second) in
    record { answer = no; first = cond (eqb no 0) list.first zero_mv; second = cond (eqb no 0) list.second zero_mv }

-- ---- find_best_ref_mvs

abbrev pub best_rows : MvRefGeometry → Mv → Mv → List Row
best_rows g first second =
    row BLOCK (leb g.mi_size 12)
    ∷ row GRID (grid_ok g)
    ∷ row VECTOR (legal_mv first && legal_mv second)
    ∷ []

-- "moves odd components one towards zero"
unfoldable pub evened : ℤ → ℤ
evened z = quot_z z (pos 2) *ℤ pos 2

-- "unless high precision is allowed and both absolute components are below 64 (the standard's use_mv_hp)"
unfoldable pub lowered : Bool → Mv → Mv
lowered allowed v =
    cond (allowed && ltb (nat_abs v.row.0) 64 && ltb (nat_abs v.col.0) 64) v (mv (evened v.row.0) (evened v.col.0))

-- "find_best_ref_mvs 1248"
unfoldable pub best_mvs : MvRefGeometry → Mv → Mv → Bool → MvPair
best_mvs g first second allowed =
    let no = answer (best_rows g first second) in
    record {
      answer = no;
      first = cond (eqb no 0) (clamp_ref (pos 1248) g (lowered allowed first)) zero_mv;
      second = cond (eqb no 0) (clamp_ref (pos 1248) g (lowered allowed second)) zero_mv;
    }

-- ---- answers as C takes them: a refusal's number beside zeros

abbrev pub searched : Result Found Refusal → MvRefs
searched (Ok f) = record { answer = 0; first = f.first; second = f.second; context = f.context }
searched (Err r) = record { answer = number r; first = zero_mv; second = zero_mv; context = 0 }

abbrev pub best_pair : Result Best Refusal → MvPair
best_pair (Ok b) = record { answer = 0; first = b.nearest; second = b.near }
best_pair (Err r) = record { answer = number r; first = zero_mv; second = zero_mv }
