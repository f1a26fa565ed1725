-- Offers, folded with no early exit: document 01, 'Vectors'. Assumes nothing.
use Rattle.std.specs.Prelude.{ℕ, zero, suc, Bool, true, false, not, ◌&&◌, cond, List, [], ◌∷◌, ◌++◌, eqb, ℤ, pos, neg_ℤ, get_or}
use Rattle.std.specs.Bool.{beq}
use Rattle.std.specs.Int.Signed.{lt_z}
use Rattle.base.specs.Number.{equal}
use Rattle.base.specs.Position.{to_n}
use Rattle.base.specs.Vector.{mv, zero_mv, same_mv}
use Rattle.base.specs.declared.units.Mv.{Mv}
use Rattle.places.specs.Places.{columns}
use Rattle.records.specs.Tables.{frame_at, mv_at}
use Rattle.candidates.specs.declared.held.Held.{Held}

abbrev pub none : Held
none = record { count = 0; first = zero_mv; second = zero_mv }

-- "An offer is stored if fewer than two are held and it isn't equal to the one held"
unfoldable pub offer : Held → Mv → Held
offer h v =
    cond (eqb h.count 0) (record { count = 1; first = v; second = h.second })
    (cond (eqb h.count 1) (cond (same_mv h.first v) h (record { count = 2; first = h.first; second = v })) h)

unfoldable pub offers : Held → List Mv → Held
offers h [] = h
offers h (v ∷ vs) = offers (offer h v) vs

-- what n places offer, from place k on
unfoldable pub run : (ℕ → List Mv) → ℕ → ℕ → List Mv
run at zero k = []
run at (suc n) k = at k ++ run at n (suc k)

-- "The first list whose frame equals the target offers": list 0, else list 1, else none
unfoldable pub of_target : List ℤ → ℤ → ℕ → (ℕ → Mv) → List Mv
of_target frames target i v =
    cond (equal (frame_at frames i 0) target) (v 0 ∷ []) (cond (equal (frame_at frames i 1) target) (v 1 ∷ []) [])

-- "for sub-block -1 number 3, else by IDX_N_COLUMN_TO_SUBBLOCK, second column when the place's column offset is 0"
unfoldable pub sub_number : ℤ → ℤ → ℕ
sub_number block offset =
    cond (lt_z block (pos 0)) 3 (get_or (get_or columns (to_n block) []) (cond (equal offset (pos 0)) 1 0) 0)

-- "its frame is above 0 and not the target"
unfoldable pub is_other : ℤ → ℤ → Bool
is_other frame target = lt_z (pos 0) frame && not (equal frame target)

-- the sign bias of a frame
abbrev pub bias_of : List Bool → ℤ → Bool
bias_of bias frame = get_or bias (to_n frame) false

-- "The vector is negated when the sign bias differs"
unfoldable pub turned : List Bool → ℤ → ℤ → Mv → Mv
turned bias frame target v =
    cond (beq (bias_of bias frame) (bias_of bias target)) v (mv (neg_ℤ v.row.0) (neg_ℤ v.col.0))

-- "List 1 is also skipped when both lists' vectors were equal before any sign change"
unfoldable pub wanted : List ℤ → List ℤ → ℤ → ℕ → ℕ → Bool
wanted frames mvs target i list =
    is_other (frame_at frames i list) target && cond (eqb list 1) (not (same_mv (mv_at mvs i 0) (mv_at mvs i 1))) true

-- one list of a record, for other frames
unfoldable pub other_of : List ℤ → List ℤ → ℤ → List Bool → ℕ → ℕ → List Mv
other_of frames mvs target bias i list =
    cond (wanted frames mvs target i list) (turned bias (frame_at frames i list) target (mv_at mvs i list) ∷ []) []

-- "For each list in turn"
unfoldable pub others : List ℤ → List ℤ → ℤ → List Bool → ℕ → List Mv
others frames mvs target bias i = run (other_of frames mvs target bias i) 2 0
