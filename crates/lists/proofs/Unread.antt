-- Where the previous frame is not used, the search and the sub-8x8 list do not read the previous tables: any others give the same. Assumes nothing.
use mathlib.Core.Path.{◌≡◌, refl}
use mathlib.Core.Bool.{Bool, true, false, cond}
use mathlib.Core.List.{List, []}
use Prim.Native.Nat.{ℕ, zero, suc}
use lib.IntN.{ℤ, pos}
use Rattle.std.specs.Prelude.{Option, Some, None}
use Rattle.base.specs.declared.units.Mv.{Mv}
use Rattle.records.specs.Tables.{Tables, tables, long_enough, spot}
use Rattle.records.specs.Records.{up_to, legal_record, legal_spot, legal_records}
use Rattle.records.specs.declared.geometry.MvRefGeometry.{MvRefGeometry}
use Rattle.candidates.specs.Search.{sub_place, same_place, other_place, prev_same, prev_other, all_offers, candidates, counted, context}
use Rattle.lists.specs.MvRef.{find_mv_refs, append_mvs}

up_to_same : (n : ℕ) (f g : ℕ → Bool) → ((k : ℕ) → f k ≡ g k) → up_to n f ≡ up_to n g
up_to_same zero f g e = refl
up_to_same (suc n) f g e = rw (up_to_same n f g e, e n)

module _ (m : List ℕ) (f v s pf pv : List ℤ) (g : MvRefGeometry) where
  without : Tables
  without = tables m f v s [] []

  lent : Tables
  lent = tables m f v s pf pv

  long_same : long_enough without g false ≡ long_enough lent g false
  unfolding long_enough without lent
  long_same = refl

  spot_same : (p : Option ℕ) → legal_spot without p ≡ legal_spot lent p
  unfolding legal_spot legal_record without lent
  spot_same None = refl
  spot_same (Some i) = refl

  legal_same : legal_records without g false ≡ legal_records lent g false
  unfolding legal_records
  legal_same =
      rw (up_to_same 8 (λ (k : ℕ). legal_spot without (spot g k)) (λ (k : ℕ). legal_spot lent (spot g k)) (λ (k : ℕ). spot_same (spot g k)))

  counted_same : (p : Option ℕ) → counted without p ≡ counted lent p
  unfolding counted without lent
  counted_same None = refl
  counted_same (Some i) = refl

  context_same : context without g ≡ context lent g
  unfolding context
  context_same = rw (counted_same (spot g 0), counted_same (spot g 1))

  candidates_same : (target block : ℤ) (bias : List Bool) → candidates without g target block bias false ≡ candidates lent g target block bias false
  unfolding candidates all_offers sub_place same_place other_place prev_same prev_other without lent
  candidates_same target block bias = refl

  find_same : (target block : ℤ) (bias : List Bool) → find_mv_refs without g target block bias false ≡ find_mv_refs lent g target block bias false
  unfolding find_mv_refs
  find_same target block bias = rw (long_same, legal_same, context_same, candidates_same target block bias)

  append_same : (target : ℤ) (b : ℕ) (four : List Mv) (bias : List Bool)
      → append_mvs without g target b four bias false ≡ append_mvs lent g target b four bias false
  unfolding append_mvs
  append_same target b four bias = rw (long_same, legal_same, candidates_same target (pos b) bias)

  -- what a call hands on that takes the previous tables only where they are used
  pub find_unread : (target block : ℤ) (bias : List Bool) (use_prev : Bool)
      → find_mv_refs (tables m f v s (cond use_prev pf []) (cond use_prev pv [])) g target block bias use_prev
      ≡ find_mv_refs (tables m f v s pf pv) g target block bias use_prev
  unfolding without lent
  find_unread target block bias true = refl
  find_unread target block bias false = find_same target block bias

  pub append_unread : (target : ℤ) (b : ℕ) (four : List Mv) (bias : List Bool) (use_prev : Bool)
      → append_mvs (tables m f v s (cond use_prev pf []) (cond use_prev pv [])) g target b four bias use_prev
      ≡ append_mvs (tables m f v s pf pv) g target b four bias use_prev
  unfolding without lent
  append_unread target b four bias true = refl
  append_unread target b four bias false = append_same target b four bias
