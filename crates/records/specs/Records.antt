-- Legal records: document 01, "Legal: mode 0..13, frame -1..3, components -32767..32767, for both lists and all sub-vectors". Assumes nothing.
use Rattle.std.specs.Prelude.{ℕ, zero, suc, ◌+◌, ◌*◌, Bool, true, ◌&&◌, cond, Option, Some, None, List, leb, ℤ, pos, negsuc, get_or}
use Rattle.base.specs.Number.{between}
use Rattle.records.specs.Tables.{Tables, frame_at, spot, own}
use Rattle.records.specs.declared.geometry.MvRefGeometry.{MvRefGeometry}

-- the test passes at 0, 1, .., n - 1
abbrev pub up_to : ℕ → (ℕ → Bool) → Bool
up_to zero f = true
up_to (suc n) f = up_to n f && f n

unfoldable pub legal_part : ℤ → Bool
legal_part z = between (negsuc 32766) (pos 32767) z

-- n components of a table, from a place on
unfoldable pub legal_parts : List ℤ → ℕ → ℕ → Bool
legal_parts xs from n = up_to n (λ (j : ℕ). legal_part (get_or xs (from + j) (pos 0)))

unfoldable pub legal_frame : ℤ → Bool
legal_frame f = between (negsuc 0) (pos 3) f

-- both lists' frames and vectors: what a previous record has
unfoldable pub legal_pair : List ℤ → List ℤ → ℕ → Bool
legal_pair frames mvs i = legal_frame (frame_at frames i 0) && legal_frame (frame_at frames i 1) && legal_parts mvs (4 * i) 4

-- a record of the frame, whole: mode, both frames, both vectors, all eight sub-vectors
unfoldable pub legal_record : Tables → ℕ → Bool
legal_record t i = leb (get_or t.modes i 0) 13 && legal_pair t.frames t.mvs i && legal_parts t.subs (16 * i) 16

unfoldable pub legal_spot : Tables → Option ℕ → Bool
legal_spot t None = true
legal_spot t (Some i) = legal_record t i

-- row 8: "Consulted records are those of the search places inside the tile and, with the previous frame, the block's own previous record"
unfoldable pub legal_records : Tables → MvRefGeometry → Bool → Bool
legal_records t g use_prev =
    up_to 8 (λ (k : ℕ). legal_spot t (spot g k)) && cond use_prev (legal_pair t.prev_frames t.prev_mvs (own g)) true
