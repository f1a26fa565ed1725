-- The search over the places, in document 01's three steps ('Vectors', 1 to 3; the standard's 6.5.1). Assumes nothing.
use Rattle.std.specs.Prelude.{ℕ, ◌+◌, Bool, cond, Option, Some, None, List, [], ◌++◌, ℤ, get_or}
use Rattle.base.specs.declared.units.Mv.{Mv}
use Rattle.places.specs.Places.{offset, counters, contexts}
use Rattle.records.specs.Tables.{Tables, mv_at, sub_at, spot, own}
use Rattle.candidates.specs.Offers.{none, offers, run, of_target, sub_number, others}
use Rattle.records.specs.declared.geometry.MvRefGeometry.{MvRefGeometry}
use Rattle.candidates.specs.declared.held.Held.{Held}

-- what a place offers, given what its record offers; a place that is not inside offers nothing
abbrev pub if_inside : (ℕ → List Mv) → Option ℕ → List Mv
if_inside at None = []
if_inside at (Some i) = at i

-- step 1, places one and two: sub-vectors
unfoldable pub sub_place : Tables → MvRefGeometry → ℤ → ℤ → ℕ → List Mv
sub_place t g target block k =
    if_inside (λ (i : ℕ). of_target t.frames target i (λ (list : ℕ). sub_at t.subs i list (sub_number block (offset g.mi_size k 1)))) (spot g k)

-- step 2, places three to eight: whole vectors
unfoldable pub same_place : Tables → MvRefGeometry → ℤ → ℕ → List Mv
same_place t g target k = if_inside (λ (i : ℕ). of_target t.frames target i (mv_at t.mvs i)) (spot g k)

-- step 3, all eight places: other frames
unfoldable pub other_place : Tables → MvRefGeometry → ℤ → List Bool → ℕ → List Mv
other_place t g target bias k = if_inside (others t.frames t.mvs target bias) (spot g k)

-- the previous record, if the previous frame is used
unfoldable pub prev_same : Tables → MvRefGeometry → ℤ → Bool → List Mv
prev_same t g target use_prev = cond use_prev (of_target t.prev_frames target (own g) (mv_at t.prev_mvs (own g))) []

unfoldable pub prev_other : Tables → MvRefGeometry → ℤ → List Bool → Bool → List Mv
prev_other t g target bias use_prev = cond use_prev (others t.prev_frames t.prev_mvs target bias (own g)) []

-- every offer, in order. Step 3's "If any place was inside" needs no test: `alone` (proofs/Alone.antt) proves that where no place is inside
-- the offers are the previous record's alone
unfoldable pub all_offers : Tables → MvRefGeometry → ℤ → ℤ → List Bool → Bool → List Mv
all_offers t g target block bias use_prev =
    run (sub_place t g target block) 2 0
    ++ (run (same_place t g target) 6 2
    ++ (prev_same t g target use_prev
    ++ (run (other_place t g target bias) 8 0
    ++ prev_other t g target bias use_prev)))

-- the two candidates before clamping
unfoldable pub candidates : Tables → MvRefGeometry → ℤ → ℤ → List Bool → Bool → Held
candidates t g target block bias use_prev = offers none (all_offers t g target block bias use_prev)

-- step 1: "Places one and two, if inside, each add their mode's counter"
unfoldable pub counted : Tables → Option ℕ → ℕ
counted t None = 0
counted t (Some i) = get_or counters (get_or t.modes i 0) 0

unfoldable pub context : Tables → MvRefGeometry → ℕ
context t g = get_or contexts (counted t (spot g 0) + counted t (spot g 1)) 0
