-- A table of tests in two parts: a number that the first part gives is the whole's, and where it gives none the second part answers. What
-- passed where the search's table gives none. Assumes nothing.
use mathlib.Core.Path.{◌≡◌, refl, sym, ◌∙◌}
use mathlib.Core.Bool.{Bool, true, false, ◌&&◌}
use mathlib.Core.List.{List, [], ◌∷◌, ◌++◌}
use Prim.Native.Nat.{ℕ, ◌≤◌}
use native.Mathlib.Omega.{arith}
use borrow.Author.Tests.{leb-true, ltb-true}
use lib.Dec.{leb, ltb}
use lib.IntN.{ℤ, pos}
use Rattle.base.specs.Answer.{Row, row, unless, answer, rises, VECTOR}
use Rattle.base.specs.Number.{between}
use Rattle.base.specs.Vector.{legal_mv}
use Rattle.base.specs.declared.units.Mv.{Mv}
use Rattle.base.proofs.Answered.{unless_zero}
use Rattle.base.proofs.Tests.{and_left, and_right}
use Rattle.records.specs.Tables.{Tables, grid_ok, long_enough}
use Rattle.records.specs.Records.{legal_records}
use Rattle.records.specs.declared.geometry.MvRefGeometry.{MvRefGeometry}
use Rattle.lists.specs.MvRef.{best_rows, legal_four, append_rows}
use Rattle.lists.specs.Rows.{call_rows, shared_rows}

unless_same : (n : ℕ) (t : Bool) (a b : ℕ) → (unless n t a ≡ 0 → ⊥) → ((a ≡ 0 → ⊥) → b ≡ a) → unless n t b ≡ unless n t a
unfolding unless
unless_same n true a b d e = e d
unless_same n false a b d e = refl

pub refused_more : (rows more : List Row) → (answer rows ≡ 0 → ⊥) → answer (rows ++ more) ≡ answer rows
refused_more [] more d = absurd (d refl)
refused_more (r ∷ rows) more d =
    unless_same r.number r.passes (answer rows) (answer (rows ++ more)) d (refused_more rows more)

unless_rest : (m n : ℕ) (t : Bool) (a : ℕ) → ltb m n ≡ true → unless n t a ≡ 0 → (t ≡ true) × (a ≡ 0)
unfolding unless
unless_rest m n true a h e = (refl, e)
unless_rest m n false a h e = absurd (omega (arith, ltb-true m n h))

pub accepted_more : (m : ℕ) (rows more : List Row) → rises m rows ≡ true → answer rows ≡ 0 → answer (rows ++ more) ≡ answer more
unfolding unless
accepted_more m [] more h e = refl
accepted_more m (r ∷ rows) more h e =
    let above = and_left (ltb m r.number) (rises r.number rows) h in
    let later = and_right (ltb m r.number) (rises r.number rows) h in
    let p = unless_rest m r.number r.passes (answer rows) above e in
    rw p.0 (accepted_more r.number rows more later p.1)

-- ---- the search's table

pub record CallOk (right : Bool) (g : MvRefGeometry) (target : ℤ) : Type 0 where
  pub block : right ≡ true
  pub grid : grid_ok g ≡ true
  pub aimed : between (pos 1) (pos 3) target ≡ true

pub call_ok : (right : Bool) (g : MvRefGeometry) (target : ℤ) → answer (call_rows right g target) ≡ 0 → CallOk right g target
call_ok right g target e =
    let p = unless_zero 0 right _ e in
    let q = unless_zero 1 (grid_ok g) _ p.1 in
    record { block = p.0; grid = q.0; aimed = (unless_zero 2 (between (pos 1) (pos 3) target) 0 q.1).0 }

-- row 1 as the calls ask it: of the block's size, and of the sub-block
pub record SizedOk (g : MvRefGeometry) (block_ok : Bool) : Type 0 where
  pub size : g.mi_size ≤ 12
  pub block : block_ok ≡ true

pub sized_ok : (g : MvRefGeometry) (block_ok : Bool) → leb g.mi_size 12 && block_ok ≡ true → SizedOk g block_ok
sized_ok g block_ok e =
    record { size = leb-true g.mi_size 12 (and_left (leb g.mi_size 12) block_ok e); block = and_right (leb g.mi_size 12) block_ok e }

pub record SearchOk (t : Tables) (g : MvRefGeometry) (target : ℤ) (right use_prev : Bool) : Type 0 where
  pub call : CallOk right g target
  pub long : long_enough t g use_prev ≡ true
  pub legal : legal_records t g use_prev ≡ true

pub search_ok : (t : Tables) (g : MvRefGeometry) (target : ℤ) (right use_prev : Bool)
    → answer (shared_rows t g target right use_prev) ≡ 0 → SearchOk t g target right use_prev
search_ok t g target right use_prev e =
    let p = unless_zero 0 right _ e in
    let q = unless_zero 1 (grid_ok g) _ p.1 in
    let r = unless_zero 2 (between (pos 1) (pos 3) target) _ q.1 in
    let s = unless_zero 6 (long_enough t g use_prev) _ r.1 in
    record {
      call = record { block = p.0; grid = q.0; aimed = r.0 };
      long = s.0;
      legal = (unless_zero 7 (legal_records t g use_prev) 0 s.1).0;
    }

-- ---- the table of the best vectors

pub record BestOk (g : MvRefGeometry) (a b : Mv) : Type 0 where
  pub size : g.mi_size ≤ 12
  pub grid : grid_ok g ≡ true
  pub first : legal_mv a ≡ true
  pub second : legal_mv b ≡ true

pub best_ok : (g : MvRefGeometry) (a b : Mv) → answer (best_rows g a b) ≡ 0 → BestOk g a b
best_ok g a b e =
    let p = unless_zero 0 (leb g.mi_size 12) _ e in
    let q = unless_zero 1 (grid_ok g) _ p.1 in
    let both = (unless_zero 8 (legal_mv a && legal_mv b) 0 q.1).0 in
    record {
      size = leb-true g.mi_size 12 p.0;
      grid = q.0;
      first = and_left (legal_mv a) (legal_mv b) both;
      second = and_right (legal_mv a) (legal_mv b) both;
    }

-- ---- the table of the sub-8x8 list

first_zero : (m : ℕ) (rows more : List Row) → rises m rows ≡ true → answer (rows ++ more) ≡ 0 → answer rows ≡ 0
unfolding unless
first_zero m [] more h e = refl
first_zero m (r ∷ rows) more h e =
    let above = and_left (ltb m r.number) (rises r.number rows) h in
    let later = and_right (ltb m r.number) (rises r.number rows) h in
    let p = unless_rest m r.number r.passes (answer (rows ++ more)) above e in
    rw p.0 (first_zero r.number rows more later p.1)

pub record AppendOk (t : Tables) (g : MvRefGeometry) (b : ℕ) (m : List Mv) (use_prev : Bool) : Type 0 where
  pub size : g.mi_size ≤ 12
  pub block : leb b 3 ≡ true
  pub grid : grid_ok g ≡ true
  pub long : long_enough t g use_prev ≡ true
  pub legal : legal_records t g use_prev ≡ true
  pub four : legal_four m ≡ true

pub append_ok : (t : Tables) (g : MvRefGeometry) (target : ℤ) (b : ℕ) (m : List Mv) (use_prev : Bool)
    → answer (append_rows t g target b m use_prev) ≡ 0 → AppendOk t g b m use_prev
append_ok t g target b m use_prev e =
    let right = leb g.mi_size 12 && leb b 3 in
    let rows = shared_rows t g target right use_prev in
    let last = row VECTOR (legal_four m) ∷ [] in
    let none = first_zero 0 rows last refl e in
    let p = search_ok t g target right use_prev none in
    let first = sized_ok g (leb b 3) p.call.block in
    let four = sym (accepted_more 0 rows last refl none) ∙ e in
    record {
      size = first.size;
      block = first.block;
      grid = p.call.grid;
      long = p.long;
      legal = p.legal;
      four = (unless_zero 8 (legal_four m) 0 four).0;
    }
