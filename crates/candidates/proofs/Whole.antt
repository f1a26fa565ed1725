-- The steps of the code, put together, are the definition's: one scan serves steps 2 and 3, for other frames and for the target alike, since a
-- vector of the target frame is never negated. Assumes nothing.
use mathlib.Core.Path.{◌≡◌, refl, sym, ap, ◌∙◌}
use mathlib.Core.Bool.{Bool, true, false, beq}
use mathlib.Core.List.{List, [], ◌++◌, append-nil}
use Prim.Native.Nat.{ℕ, zero, suc}
use borrow.Author.Tests.{eqb-true}
use lib.IntN.{ℤ, pos, negsuc}
use lib.ListN.{get_or}
use Rattle.base.specs.Number.{equal}
use Rattle.base.specs.declared.units.Mv.{Mv}
use Rattle.base.proofs.Tests.{clash}
use Rattle.places.specs.Places.{places, offset}
use Rattle.records.specs.Tables.{Tables, frame_at, mv_at, spot, own}
use Rattle.candidates.specs.Offers.{none, offers, run, of_target, bias_of, turned, wanted, other_of, others}
use Rattle.candidates.specs.Search.{if_inside, sub_place, same_place, other_place, prev_same, prev_other, all_offers, candidates}
use Rattle.candidates.specs.Scan.{suits, covered, asked, offered, list_of, place_of, prev_of, sub_record, sub_place_at, nearest_of}
use Rattle.records.specs.declared.geometry.MvRefGeometry.{MvRefGeometry}
use Rattle.std.specs.Prelude.{Option, Some, None}
use Rattle.candidates.specs.declared.held.Held.{Held}
use Rattle.candidates.specs.declared.scan.Ask.{Ask}
use Rattle.candidates.proofs.Folds.{offers_append}

-- ---- a vector of the target frame is not negated

equal_eq : (a b : ℤ) → equal a b ≡ true → a ≡ b
equal_eq (pos a) (pos b) e = ap pos (eqb-true a b e)
equal_eq (pos a) (negsuc b) e = clash e
equal_eq (negsuc a) (pos b) e = clash e
equal_eq (negsuc a) (negsuc b) e = ap negsuc (eqb-true a b e)

beq-self : (b : Bool) → beq b b ≡ true
beq-self true = refl
beq-self false = refl

unturned : (bias : List Bool) (frame target : ℤ) (v : Mv) → equal frame target ≡ true → turned bias frame target v ≡ v
unfolding turned
unturned bias frame target v e = rw (equal_eq frame target e, beq-self (bias_of bias target))

-- ---- a record

abbrev pub ask : ℤ → List Bool → Bool → Ask
ask target bias other = record { target = target; sign_bias = bias; other = other }

module _ (frames mvs : List ℤ) (target : ℤ) (bias : List Bool) (i : ℕ) where
  others_is : run (list_of frames mvs (ask target bias true) i) 2 0 ≡ others frames mvs target bias i
  unfolding run others list_of asked offered suits covered other_of wanted
  others_is = refl

  by_frames : (a b : Bool) → equal (frame_at frames i 0) target ≡ a → equal (frame_at frames i 1) target ≡ b
      → run (list_of frames mvs (ask target bias false) i) 2 0 ≡ of_target frames target i (mv_at mvs i)
  unfolding run list_of asked offered suits covered of_target
  by_frames true true e0 e1 = rw (e0, e1, unturned bias (frame_at frames i 0) target (mv_at mvs i 0) e0)
  by_frames true false e0 e1 = rw (e0, e1, unturned bias (frame_at frames i 0) target (mv_at mvs i 0) e0)
  by_frames false true e0 e1 = rw (e0, e1, unturned bias (frame_at frames i 1) target (mv_at mvs i 1) e1)
  by_frames false false e0 e1 = rw (e0, e1)

  of_target_is : run (list_of frames mvs (ask target bias false) i) 2 0 ≡ of_target frames target i (mv_at mvs i)
  of_target_is = by_frames (equal (frame_at frames i 0) target) (equal (frame_at frames i 1) target) refl refl

-- ---- places

run_same : (f g : ℕ → List Mv) → ((k : ℕ) → f k ≡ g k) → (n k : ℕ) → run f n k ≡ run g n k
unfolding run
run_same f g e zero k = refl
run_same f g e (suc n) k = rw (e k, run_same f g e n (suc k))

inside_same : (f g : ℕ → List Mv) → ((i : ℕ) → f i ≡ g i) → (s : Option ℕ) → if_inside f s ≡ if_inside g s
inside_same f g e None = refl
inside_same f g e (Some i) = e i

module _ (t : Tables) (g : MvRefGeometry) (target : ℤ) (bias : List Bool) where
  same_place_lem : (k : ℕ) → place_of t.frames t.mvs g (ask target bias false) k ≡ same_place t g target k
  unfolding place_of same_place
  same_place_lem k =
      inside_same (λ (i : ℕ). run (list_of t.frames t.mvs (ask target bias false) i) 2 0)
      (λ (i : ℕ). of_target t.frames target i (mv_at t.mvs i)) (of_target_is t.frames t.mvs target bias) (spot g k)

  other_place_lem : (k : ℕ) → place_of t.frames t.mvs g (ask target bias true) k ≡ other_place t g target bias k
  unfolding place_of other_place
  other_place_lem k =
      inside_same (λ (i : ℕ). run (list_of t.frames t.mvs (ask target bias true) i) 2 0)
      (others t.frames t.mvs target bias) (others_is t.frames t.mvs target bias) (spot g k)

  prev_same_is : (on : Bool) → prev_of t.prev_frames t.prev_mvs g (ask target bias false) on ≡ prev_same t g target on
  unfolding prev_of prev_same
  prev_same_is on = rw (of_target_is t.prev_frames t.prev_mvs target bias (own g))

  prev_other_is : (on : Bool) → prev_of t.prev_frames t.prev_mvs g (ask target bias true) on ≡ prev_other t g target bias on
  unfolding prev_of prev_other
  prev_other_is on = rw (others_is t.prev_frames t.prev_mvs target bias (own g))

  pub nearest_is : (near : List (List ℤ)) (one two : Option ℕ) (block : ℤ)
      → near ≡ get_or places g.mi_size [] → one ≡ spot g 0 → two ≡ spot g 1
      → nearest_of t.frames t.subs near one two target block ≡ run (sub_place t g target block) 2 0
  unfolding nearest_of run sub_place sub_place_at sub_record offset
  nearest_is near one two block en e1 e2 = rw (en, e1, e2, append-nil)

-- ---- the whole

module _ (t : Tables) (g : MvRefGeometry) (target block : ℤ) (bias : List Bool) (on : Bool) where
  pub all_is : (h1 h2 p2 h3 p3 : Held)
      → h1 ≡ offers none (run (sub_place t g target block) 2 0)
      → h2 ≡ offers h1 (run (place_of t.frames t.mvs g (ask target bias false)) 6 2)
      → p2 ≡ offers h2 (prev_of t.prev_frames t.prev_mvs g (ask target bias false) on)
      → h3 ≡ offers p2 (run (place_of t.frames t.mvs g (ask target bias true)) 8 0)
      → p3 ≡ offers h3 (prev_of t.prev_frames t.prev_mvs g (ask target bias true) on)
      → p3 ≡ candidates t g target block bias on
  unfolding candidates all_offers
  all_is h1 h2 p2 h3 p3 e1 e2 e3 e4 e5 =
      let a = run (sub_place t g target block) 2 0 in
      let b = run (same_place t g target) 6 2 in
      let c = prev_same t g target on in
      let d = run (other_place t g target bias) 8 0 in
      let e = prev_other t g target bias on in
      let s2 : h2 ≡ offers h1 b = e2 ∙ ap (offers h1) (run_same _ _ (same_place_lem t g target bias) 6 2) in
      let s3 : p2 ≡ offers h2 c = e3 ∙ ap (offers h2) (prev_same_is t g target bias on) in
      let s4 : h3 ≡ offers p2 d = e4 ∙ ap (offers p2) (run_same _ _ (other_place_lem t g target bias) 8 0) in
      let s5 : p3 ≡ offers h3 e = e5 ∙ ap (offers h3) (prev_other_is t g target bias on) in
      s5
      ∙ rw (s4, s3, s2, e1, offers_append none a (b ++ (c ++ (d ++ e))), offers_append (offers none a) b (c ++ (d ++ e)))
      (sym (offers_append (offers (offers none a) b) c (d ++ e)
      ∙ offers_append (offers (offers (offers none a) b) c) d e))
