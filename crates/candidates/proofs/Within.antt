-- Where every consulted record is legal, the candidates' components are within -32767..32767. Assumes nothing.
use mathlib.Core.Path.{◌≡◌}
use mathlib.Core.Bool.{Bool, true, false, ◌&&◌, cond, beq}
use mathlib.Core.List.{List, [], ◌∷◌, ◌++◌}
use Prim.Native.Nat.{ℕ, zero, suc, ◌+◌, ◌*◌, ◌≤◌, ◌<◌}
use native.Mathlib.Nat.{eq-or-lt_of_le, le_of_suc-le-suc, not-suc-le-zero}
use native.Mathlib.Omega.{arith}
use mathlib.Core.Logic.{⊎_elim}
use lib.Dec.{leb, eqb}
use lib.IntN.{ℤ, pos, neg_ℤ, nat_abs}
use lib.ListN.{get_or}
use Rattle.base.specs.Number.{equal}
use Rattle.base.specs.Vector.{mv, same_mv}
use Rattle.base.specs.declared.units.Mv.{Mv}
use Rattle.base.proofs.Bd.{abs_neg}
use Rattle.base.proofs.Tests.{and_left, and_right, between_abs}
use Rattle.places.specs.Places.{offset}
use Rattle.records.specs.Tables.{Tables, frame_at, mv_at, sub_at, spot, own}
use Rattle.records.specs.Records.{up_to, legal_part, legal_parts, legal_frame, legal_pair, legal_record, legal_spot, legal_records}
use Rattle.candidates.specs.Offers.{none, offer, offers, run, of_target, sub_number, turned, wanted, other_of, others, bias_of}
use Rattle.candidates.specs.Search.{if_inside, sub_place, same_place, other_place, prev_same, prev_other, all_offers, candidates}
use Rattle.records.specs.declared.geometry.MvRefGeometry.{MvRefGeometry}
use Rattle.std.specs.Prelude.{Option, Some, None}
use Rattle.candidates.specs.declared.held.Held.{Held}
use Rattle.records.proofs.Joined.{passed}
use Rattle.candidates.proofs.Numbers.{number_small}

pub record Small (v : Mv) : Type 0 where
  pub row : nat_abs v.row.0 ≤ 32767
  pub col : nat_abs v.col.0 ≤ 32767

-- ---- tests

at_each : (n : ℕ) (f : ℕ → Bool) → up_to n f ≡ true → (k : ℕ) → k < n → f k ≡ true
at_each zero f e k h = absurd (not-suc-le-zero h)
at_each (suc n) f e k h =
    ⊎_elim (λ same. rw same (and_right (up_to n f) (f n) e)) (λ less. at_each n f (and_left (up_to n f) (f n) e) k less)
    (eq-or-lt_of_le (le_of_suc-le-suc h))

part : (xs : List ℤ) (from n k : ℕ) → legal_parts xs from n ≡ true → k < n → nat_abs (get_or xs (from + k) (pos 0)) ≤ 32767
unfolding legal_parts legal_part
part xs from n k e h =
    between_abs 32766 (get_or xs (from + k) (pos 0)) (at_each n (λ (j : ℕ). legal_part (get_or xs (from + j) (pos 0))) e k h)

-- ---- vectors of a legal record

mv_small : (mvs : List ℤ) (i list : ℕ) → legal_parts mvs (4 * i) 4 ≡ true → list < 2 → Small (mv_at mvs i list)
mv_small mvs i list e h =
    let col : 4 * i + 2 * list + 1 ≡ 4 * i + (2 * list + 1) = omega arith in
    record { row = part mvs (4 * i) 4 (2 * list) e (omega arith); col = rw col (part mvs (4 * i) 4 (2 * list + 1) e (omega arith)) }

sub_small : (subs : List ℤ) (i list b : ℕ) → legal_parts subs (16 * i) 16 ≡ true → list < 2 → b < 4 → Small (sub_at subs i list b)
sub_small subs i list b e h k =
    let row : ((2 * i + list) * 4 + b) * 2 ≡ 16 * i + (8 * list + 2 * b) = omega arith in
    let col : 16 * i + (8 * list + 2 * b) + 1 ≡ 16 * i + (8 * list + 2 * b + 1) = omega arith in
    record {
      row = rw row (part subs (16 * i) 16 (8 * list + 2 * b) e (omega arith));
      col = rw (row, col) (part subs (16 * i) 16 (8 * list + 2 * b + 1) e (omega arith));
    }

cond_small : (t : Bool) (a b : Mv) → Small a → Small b → Small (cond t a b)
cond_small true a b x y = x
cond_small false a b x y = y

turned_small : (bias : List Bool) (frame target : ℤ) (v : Mv) → Small v → Small (turned bias frame target v)
unfolding turned
turned_small bias frame target v s =
    cond_small (beq (bias_of bias frame) (bias_of bias target)) v (mv (neg_ℤ v.row.0) (neg_ℤ v.col.0)) s
    (record { row = omega (arith, abs_neg v.row.0, s.row); col = omega (arith, abs_neg v.col.0, s.col) })

-- ---- lists of offers

pub data All : List Mv → Type 0 where
  nil : All []
  cons : {v : Mv} {vs : List Mv} → Small v → All vs → All (v ∷ vs)

append_all : {xs ys : List Mv} → All xs → All ys → All (xs ++ ys)
append_all nil b = b
append_all (cons s a) b = cons s (append_all a b)

cond-all : (t : Bool) {xs ys : List Mv} → All xs → All ys → All (cond t xs ys)
cond-all true a b = a
cond-all false a b = b

run_all : (f : ℕ → List Mv) (n k : ℕ) → ((j : ℕ) → j < k + n → All (f j)) → All (run f n k)
unfolding run
run_all f zero k e = nil
run_all f (suc n) k e = append_all (e k (omega arith)) (run_all f n (suc k) (λ (j : ℕ) (h : j < suc k + n). e j (omega arith)))

of_target_all : (frames : List ℤ) (target : ℤ) (i : ℕ) (v : ℕ → Mv) → Small (v 0) → Small (v 1) → All (of_target frames target i v)
unfolding of_target
of_target_all frames target i v a b =
    cond-all (equal (frame_at frames i 0) target) (cons a nil) (cond-all (equal (frame_at frames i 1) target) (cons b nil) nil)

others_all : (frames mvs : List ℤ) (target : ℤ) (bias : List Bool) (i : ℕ) → legal_parts mvs (4 * i) 4 ≡ true → All (others frames mvs target bias i)
unfolding others other_of
others_all frames mvs target bias i e =
    run_all (other_of frames mvs target bias i) 2 0
    (λ (list : ℕ) (h : list < 0 + 2). cond-all (wanted frames mvs target i list)
    (cons (turned_small bias (frame_at frames i list) target (mv_at mvs i list) (mv_small mvs i list e (omega arith))) nil) nil)

-- ---- records

pair_parts : (frames mvs : List ℤ) (i : ℕ) → legal_pair frames mvs i ≡ true → legal_parts mvs (4 * i) 4 ≡ true
unfolding legal_pair
pair_parts frames mvs i e =
    and_right (legal_frame (frame_at frames i 0) && legal_frame (frame_at frames i 1)) (legal_parts mvs (4 * i) 4) e

record_tests : (t : Tables) (i : ℕ) → legal_record t i ≡ true → (k : ℕ)
    → get_or (leb (get_or t.modes i 0) 13 ∷ legal_pair t.frames t.mvs i ∷ legal_parts t.subs (16 * i) 16 ∷ []) k true ≡ true
unfolding legal_record
record_tests t i = passed (leb (get_or t.modes i 0) 13) (legal_pair t.frames t.mvs i ∷ legal_parts t.subs (16 * i) 16 ∷ [])

module _ (t : Tables) (g : MvRefGeometry) (target : ℤ) where
  sub-all : (block : ℤ) (k : ℕ) (s : Option ℕ) → legal_spot t s ≡ true
      → All
      (if_inside (λ (i : ℕ). of_target t.frames target i (λ (list : ℕ). sub_at t.subs i list (sub_number block (offset g.mi_size k 1)))) s)
  unfolding legal_spot
  sub-all block k None e = nil
  sub-all block k (Some i) e =
      let b = sub_number block (offset g.mi_size k 1) in
      let few = number_small block (offset g.mi_size k 1) in
      let legal = record_tests t i e 2 in
      of_target_all t.frames target i (λ (list : ℕ). sub_at t.subs i list b)
      (sub_small t.subs i 0 b legal (omega arith) few) (sub_small t.subs i 1 b legal (omega arith) few)

  same_all : (s : Option ℕ) → legal_spot t s ≡ true → All (if_inside (λ (i : ℕ). of_target t.frames target i (mv_at t.mvs i)) s)
  unfolding legal_spot
  same_all None e = nil
  same_all (Some i) e =
      let legal = pair_parts t.frames t.mvs i (record_tests t i e 1) in
      of_target_all t.frames target i (mv_at t.mvs i) (mv_small t.mvs i 0 legal (omega arith)) (mv_small t.mvs i 1 legal (omega arith))

  other_all : (bias : List Bool) (s : Option ℕ) → legal_spot t s ≡ true → All (if_inside (others t.frames t.mvs target bias) s)
  unfolding legal_spot
  other_all bias None e = nil
  other_all bias (Some i) e = others_all t.frames t.mvs target bias i (pair_parts t.frames t.mvs i (record_tests t i e 1))

-- ---- the whole search

prev_same_all : (t : Tables) (g : MvRefGeometry) (target : ℤ) (on : Bool)
    → cond on (legal_pair t.prev_frames t.prev_mvs (own g)) true ≡ true → All (prev_same t g target on)
unfolding prev_same
prev_same_all t g target true e =
    let legal = pair_parts t.prev_frames t.prev_mvs (own g) e in
    of_target_all t.prev_frames target (own g) (mv_at t.prev_mvs (own g))
    (mv_small t.prev_mvs (own g) 0 legal (omega arith)) (mv_small t.prev_mvs (own g) 1 legal (omega arith))
prev_same_all t g target false e = nil

prev_other_all : (t : Tables) (g : MvRefGeometry) (target : ℤ) (bias : List Bool) (on : Bool)
    → cond on (legal_pair t.prev_frames t.prev_mvs (own g)) true ≡ true → All (prev_other t g target bias on)
unfolding prev_other
prev_other_all t g target bias true e =
    others_all t.prev_frames t.prev_mvs target bias (own g) (pair_parts t.prev_frames t.prev_mvs (own g) e)
prev_other_all t g target bias false e = nil

pub record SmallPair (h : Held) : Type 0 where
  pub first : Small h.first
  pub second : Small h.second

cond-pair : (t : Bool) {h k : Held} → SmallPair h → SmallPair k → SmallPair (cond t h k)
cond-pair true a b = a
cond-pair false a b = b

offer_small : (h : Held) (v : Mv) → SmallPair h → Small v → SmallPair (offer h v)
unfolding offer
offer_small h v p s =
    cond-pair (eqb h.count 0) (record { first = s; second = p.second })
    (cond-pair (eqb h.count 1) (cond-pair (same_mv h.first v) p (record { first = p.first; second = s })) p)

pub offers_small : (h : Held) {vs : List Mv} → SmallPair h → All vs → SmallPair (offers h vs)
unfolding offers
offers_small h p nil = p
offers_small h p (cons s a) = offers_small (offer h _) (offer_small h _ p s) a

pub none_small : SmallPair none
none_small = omega arith

pub candidates_small : (t : Tables) (g : MvRefGeometry) (target block : ℤ) (bias : List Bool) (on : Bool)
    → legal_records t g on ≡ true → SmallPair (candidates t g target block bias on)
unfolding candidates all_offers legal_records sub_place same_place other_place
candidates_small t g target block bias on e =
    let legal : ℕ → Bool = λ (k : ℕ). legal_spot t (spot g k) in
    let prev = cond on (legal_pair t.prev_frames t.prev_mvs (own g)) true in
    let place = at_each 8 legal (and_left (up_to 8 legal) prev e) in
    let own-legal = and_right (up_to 8 legal) prev e in
    offers_small none none_small
    (append_all (run_all (sub_place t g target block) 2 0 (λ (k : ℕ) (h : k < 0 + 2). sub-all t g target block k (spot g k) (place k (omega arith))))
    (append_all (run_all (same_place t g target) 6 2 (λ (k : ℕ) (h : k < 2 + 6). same_all t g target (spot g k) (place k (omega arith))))
    (append_all (prev_same_all t g target on own-legal)
    (append_all
    (run_all (other_place t g target bias) 8 0 (λ (k : ℕ) (h : k < 0 + 8). other_all t g target bias (spot g k) (place k (omega arith))))
    (prev_other_all t g target bias on own-legal)))))
