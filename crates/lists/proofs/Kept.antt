-- What the search, the sub-8x8 list and the best vectors give stays within -32767..32767: a legal component stays legal under the clamp. The
-- context is 0..6. Assumes nothing.
use mathlib.Core.Path.{◌≡◌, refl}
use mathlib.Core.Bool.{Bool, true, false, ◌&&◌, cond}
use mathlib.Core.List.{List, [], ◌∷◌}
use Prim.Native.Nat.{ℕ, ◌≤◌, ◌<◌}
use native.Mathlib.Omega.{arith}
use borrow.Author.Tests.{eqb-true}
use lib.Dec.{leb, ltb, eqb}
use lib.IntN.{ℤ, pos, negsuc, nat_abs}
use lib.Signed.{quot_z}
use Rattle.base.specs.Answer.{answer}
use Rattle.base.specs.Number.{between}
use Rattle.base.specs.Position.{to_n}
use Rattle.base.specs.Vector.{mv, zero_mv, legal_mv}
use Rattle.base.specs.declared.units.Mv.{Mv}
use Rattle.base.proofs.Bd.{abs-mul, abs-quot}
use Rattle.base.proofs.Legal.{legal_bd, legal_row, legal_col}
use Rattle.base.proofs.Tests.{and_four, pos-to_n}
use Rattle.records.specs.Tables.{Tables, grid_ok}
use Rattle.candidates.specs.Offers.{none, offers}
use Rattle.candidates.specs.Search.{candidates, context}
use Rattle.records.specs.declared.geometry.MvRefGeometry.{MvRefGeometry}
use Rattle.candidates.proofs.Contexts.{context_range}
use Rattle.records.proofs.Grid.{grid}
use Rattle.candidates.proofs.Within.{Small, SmallPair, All, nil, cons, offers_small, none_small, candidates_small}
use Rattle.clamping.specs.Sizes.{highs, wides, high, wide}
use Rattle.clamping.proofs.Ends.{part_kept}
use Rattle.clamping.proofs.Tested.{size_kept}
use Rattle.lists.specs.MvRef.{clamp_part, clamp_ref, evened, lowered, search_rows, find_mv_refs, best_rows, best_mvs}
use Rattle.lists.specs.MvRef.{sub_mv, legal_four, before, sub_list, append_rows, append_mvs}
use Rattle.lists.proofs.Table.{SearchOk, search_ok, best_ok, append_ok}

-- ---- vectors

axis_kept : (border : ℕ) (total n first v : ℤ) → pos (to_n total) ≡ total → pos (to_n first) ≡ first → pos (to_n n) ≡ n → to_n n ≤ 8
    → to_n first < to_n total → nat_abs v ≤ 32767 → nat_abs (clamp_part (pos border) total n first v) ≤ 32767
axis_kept border total n first v et ef en few inside hv =
    rw (← et, ← ef, ← en) (part_kept border (to_n total) (to_n n) (to_n first) v (omega arith) few hv)

pub ref_kept : (border : ℕ) (g : MvRefGeometry) (v : Mv) → grid_ok g ≡ true → Small v → Small (clamp_ref (pos border) g v)
unfolding clamp_ref between
ref_kept border g v e s =
    let ok = grid g e in
    let tall = size_kept highs refl g.mi_size in
    let broad = size_kept wides refl g.mi_size in
    record {
      row = axis_kept border g.mi_rows (high g.mi_size) g.mi_row v.row.0
          (pos-to_n g.mi_rows ok.rows_up) (pos-to_n g.mi_row ok.row_up) tall.0 tall.1 ok.row s.row;
      col = axis_kept border g.mi_cols (wide g.mi_size) g.mi_col v.col.0
          (pos-to_n g.mi_cols ok.cols_up) (pos-to_n g.mi_col ok.col_up) broad.0 broad.1 ok.col s.col;
    }

even_kept : (z : ℤ) → nat_abs z ≤ 32767 → nat_abs (evened z) ≤ 32767
unfolding evened
even_kept z h = omega (arith, abs-mul (quot_z z (pos 2)) (pos 2), abs-quot z 2)

lowered_kept : (allowed : Bool) (v : Mv) → Small v → Small (lowered allowed v)
unfolding lowered
lowered_kept allowed v s =
    by-test (allowed && ltb (nat_abs v.row.0) 64 && ltb (nat_abs v.col.0) 64)
  where
    by-test : (t : Bool) → Small (cond t v (mv (evened v.row.0) (evened v.col.0)))
    by-test true = s
    by-test false = record { row = even_kept v.row.0 s.row; col = even_kept v.col.0 s.col }

legal_small : (v : Mv) → legal_mv v ≡ true → Small v
legal_small v e = record { row = (legal_bd v.row (legal_row v e)).le; col = (legal_bd v.col (legal_col v e)).le }

-- ---- the three calls, accepted or refused

chosen : (n : ℕ) (v : Mv) → (n ≡ 0 → Small v) → Small (cond (eqb n 0) v zero_mv)
chosen n v f = by-test (eqb n 0) refl
  where
    by-test : (t : Bool) → eqb n 0 ≡ t → Small (cond t v zero_mv)
    by-test true e = f (eqb-true n 0 e)
    by-test false e = omega arith

module _ (t : Tables) (g : MvRefGeometry) (target block : ℤ) (bias : List Bool) (on : Bool) where
  accepted : answer (search_rows t g target block on) ≡ 0 → SearchOk t g target (leb g.mi_size 12 && between (negsuc 0) (pos 3) block) on
  accepted e = search_ok t g target (leb g.mi_size 12 && between (negsuc 0) (pos 3) block) on e

  pub find_first_kept : Small (find_mv_refs t g target block bias on).first
  unfolding find_mv_refs
  find_first_kept =
      chosen (answer (search_rows t g target block on)) _
      (λ e. ref_kept 128 g _ (accepted e).call.grid (candidates_small t g target block bias on (accepted e).legal).first)

  pub find_second_kept : Small (find_mv_refs t g target block bias on).second
  unfolding find_mv_refs
  find_second_kept =
      chosen (answer (search_rows t g target block on)) _
      (λ e. ref_kept 128 g _ (accepted e).call.grid (candidates_small t g target block bias on (accepted e).legal).second)

  pub find_context_range : (find_mv_refs t g target block bias on).context ≤ 6
  unfolding find_mv_refs
  find_context_range = by-test (eqb (answer (search_rows t g target block on)) 0)
    where
      by-test : (b : Bool) → cond b (context t g) 0 ≤ 6
      by-test true = context_range t g
      by-test false = omega arith

module _ (g : MvRefGeometry) (a b : Mv) (allowed : Bool) where
  pub best_first_kept : Small (best_mvs g a b allowed).first
  unfolding best_mvs
  best_first_kept =
      chosen (answer (best_rows g a b)) _
      (λ e. let ok = best_ok g a b e in ref_kept 1248 g _ ok.grid (lowered_kept allowed a (legal_small a ok.first)))

  pub best_second_kept : Small (best_mvs g a b allowed).second
  unfolding best_mvs
  best_second_kept =
      chosen (answer (best_rows g a b)) _
      (λ e. let ok = best_ok g a b e in ref_kept 1248 g _ ok.grid (lowered_kept allowed b (legal_small b ok.second)))

list_kept : (b : ℕ) (m : List Mv) (p q : Mv) → legal_four m ≡ true → Small p → Small q → SmallPair (sub_list b m p q)
unfolding legal_four sub_list before
list_kept b m p q e sp sq = by-block (eqb b 0)
  where
    each : (legal_mv (sub_mv m 0) ≡ true) × ((legal_mv (sub_mv m 1) ≡ true) × ((legal_mv (sub_mv m 2) ≡ true) × (legal_mv (sub_mv m 3) ≡ true)))
    each = and_four (legal_mv (sub_mv m 0)) (legal_mv (sub_mv m 1)) (legal_mv (sub_mv m 2)) (legal_mv (sub_mv m 3)) e

    s0 : Small (sub_mv m 0)
    s0 = legal_small (sub_mv m 0) each.0

    by_place : (t : Bool) → All (cond t (sub_mv m 0 ∷ p ∷ q ∷ []) (sub_mv m 2 ∷ sub_mv m 1 ∷ sub_mv m 0 ∷ p ∷ q ∷ []))
    by_place true = cons s0 (cons sp (cons sq nil))
    by_place false =
        cons (legal_small (sub_mv m 2) each.1.1.0) (cons (legal_small (sub_mv m 1) each.1.0) (cons s0 (cons sp (cons sq nil))))

    by-block : (t : Bool) → SmallPair (cond t (record { count = 2; first = p; second = q }) (offers none (before b m (p ∷ q ∷ []))))
    by-block true = record { first = sp; second = sq }
    by-block false = offers_small none none_small (by_place (leb b 2))

module _ (t : Tables) (g : MvRefGeometry) (target : ℤ) (b : ℕ) (m : List Mv) (bias : List Bool) (on : Bool) where
  pair_kept : answer (append_rows t g target b m on) ≡ 0
      → let held = candidates t g target (pos b) bias on in
      SmallPair (sub_list b m (clamp_ref (pos 128) g held.first) (clamp_ref (pos 128) g held.second))
  pair_kept e =
      let ok = append_ok t g target b m on e in
      let held = candidates_small t g target (pos b) bias on ok.legal in
      list_kept b m _ _ ok.four (ref_kept 128 g _ ok.grid held.first) (ref_kept 128 g _ ok.grid held.second)

  pub append_first_kept : Small (append_mvs t g target b m bias on).first
  unfolding append_mvs
  append_first_kept = chosen (answer (append_rows t g target b m on)) _ (λ e. (pair_kept e).first)

  pub append_second_kept : Small (append_mvs t g target b m bias on).second
  unfolding append_mvs
  append_second_kept = chosen (answer (append_rows t g target b m on)) _ (λ e. (pair_kept e).second)
