-- The tables of the candidate search: the standard's 6.5.1 and 6.5.11, which document 01 names by src/mv_ref.rs. Assumes nothing.
use Rattle.std.specs.Prelude.{ℕ, ◌≤◌, ◌≡◌, List, [], ◌∷◌, ℤ, pos, negsuc, get_or}

-- a place: so many rows and columns of cells away from the block's own cell
abbrev pub off : ℤ → ℤ → List ℤ
off row col = row ∷ col ∷ []

-- mv_ref_blocks: for each of the block sizes 0..12 eight places
unfoldable pub places : List (List (List ℤ))
places =
    (off (negsuc 0) (pos 0) ∷ off (pos 0) (negsuc 0) ∷ off (negsuc 0) (negsuc 0) ∷ off (negsuc 1) (pos 0)
    ∷ off (pos 0) (negsuc 1) ∷ off (negsuc 1) (negsuc 0) ∷ off (negsuc 0) (negsuc 1) ∷ off (negsuc 1) (negsuc 1) ∷ [])
    ∷ (off (negsuc 0) (pos 0) ∷ off (pos 0) (negsuc 0) ∷ off (negsuc 0) (negsuc 0) ∷ off (negsuc 1) (pos 0)
    ∷ off (pos 0) (negsuc 1) ∷ off (negsuc 1) (negsuc 0) ∷ off (negsuc 0) (negsuc 1) ∷ off (negsuc 1) (negsuc 1) ∷ [])
    ∷ (off (negsuc 0) (pos 0) ∷ off (pos 0) (negsuc 0) ∷ off (negsuc 0) (negsuc 0) ∷ off (negsuc 1) (pos 0)
    ∷ off (pos 0) (negsuc 1) ∷ off (negsuc 1) (negsuc 0) ∷ off (negsuc 0) (negsuc 1) ∷ off (negsuc 1) (negsuc 1) ∷ [])
    ∷ (off (negsuc 0) (pos 0) ∷ off (pos 0) (negsuc 0) ∷ off (negsuc 0) (negsuc 0) ∷ off (negsuc 1) (pos 0)
    ∷ off (pos 0) (negsuc 1) ∷ off (negsuc 1) (negsuc 0) ∷ off (negsuc 0) (negsuc 1) ∷ off (negsuc 1) (negsuc 1) ∷ [])
    ∷ (off (pos 0) (negsuc 0) ∷ off (negsuc 0) (pos 0) ∷ off (pos 1) (negsuc 0) ∷ off (negsuc 0) (negsuc 0)
    ∷ off (pos 0) (negsuc 1) ∷ off (negsuc 1) (pos 0) ∷ off (negsuc 1) (negsuc 0) ∷ off (negsuc 0) (negsuc 1) ∷ [])
    ∷ (off (negsuc 0) (pos 0) ∷ off (pos 0) (negsuc 0) ∷ off (negsuc 0) (pos 1) ∷ off (negsuc 0) (negsuc 0)
    ∷ off (negsuc 1) (pos 0) ∷ off (pos 0) (negsuc 1) ∷ off (negsuc 0) (negsuc 1) ∷ off (negsuc 1) (negsuc 0) ∷ [])
    ∷ (off (negsuc 0) (pos 0) ∷ off (pos 0) (negsuc 0) ∷ off (negsuc 0) (pos 1) ∷ off (pos 1) (negsuc 0)
    ∷ off (negsuc 0) (negsuc 0) ∷ off (negsuc 2) (pos 0) ∷ off (pos 0) (negsuc 2) ∷ off (negsuc 2) (negsuc 2) ∷ [])
    ∷ (off (pos 0) (negsuc 0) ∷ off (negsuc 0) (pos 0) ∷ off (pos 2) (negsuc 0) ∷ off (negsuc 0) (negsuc 0)
    ∷ off (negsuc 0) (pos 1) ∷ off (pos 0) (negsuc 2) ∷ off (negsuc 2) (pos 0) ∷ off (negsuc 2) (negsuc 2) ∷ [])
    ∷ (off (negsuc 0) (pos 0) ∷ off (pos 0) (negsuc 0) ∷ off (negsuc 0) (pos 2) ∷ off (negsuc 0) (negsuc 0)
    ∷ off (pos 1) (negsuc 0) ∷ off (negsuc 2) (pos 0) ∷ off (pos 0) (negsuc 2) ∷ off (negsuc 2) (negsuc 2) ∷ [])
    ∷ (off (negsuc 0) (pos 1) ∷ off (pos 1) (negsuc 0) ∷ off (negsuc 0) (pos 2) ∷ off (pos 2) (negsuc 0)
    ∷ off (negsuc 0) (negsuc 0) ∷ off (negsuc 2) (pos 0) ∷ off (pos 0) (negsuc 2) ∷ off (negsuc 2) (negsuc 2) ∷ [])
    ∷ (off (pos 0) (negsuc 0) ∷ off (negsuc 0) (pos 0) ∷ off (pos 4) (negsuc 0) ∷ off (negsuc 0) (pos 2)
    ∷ off (negsuc 0) (negsuc 0) ∷ off (pos 0) (negsuc 2) ∷ off (negsuc 2) (pos 0) ∷ off (pos 2) (negsuc 0) ∷ [])
    ∷ (off (negsuc 0) (pos 0) ∷ off (pos 0) (negsuc 0) ∷ off (negsuc 0) (pos 4) ∷ off (pos 2) (negsuc 0)
    ∷ off (negsuc 0) (negsuc 0) ∷ off (negsuc 2) (pos 0) ∷ off (pos 0) (negsuc 2) ∷ off (negsuc 0) (pos 2) ∷ [])
    ∷ (off (negsuc 0) (pos 3) ∷ off (pos 3) (negsuc 0) ∷ off (negsuc 0) (pos 4) ∷ off (pos 4) (negsuc 0)
    ∷ off (negsuc 0) (negsuc 0) ∷ off (negsuc 0) (pos 0) ∷ off (pos 0) (negsuc 0) ∷ off (negsuc 0) (pos 6) ∷ [])
    ∷ []

-- row (part 0) or column (part 1) of place k, counted from 0
unfoldable pub offset : ℕ → ℕ → ℕ → ℤ
offset size k part = get_or (get_or (get_or places size []) k []) part (pos 0)

-- mode_2_counter, for the modes 0..13
unfoldable pub counters : List ℕ
counters = 9 ∷ 9 ∷ 9 ∷ 9 ∷ 9 ∷ 9 ∷ 9 ∷ 9 ∷ 9 ∷ 9 ∷ 0 ∷ 0 ∷ 3 ∷ 1 ∷ []

-- r is a mode's counter; a mode that is none counts nothing
pub record Counted (mode r : ℕ) : Type 0 where
  pub is : r ≡ get_or counters mode 0
  pub small : r ≤ 9

-- counter_to_context; 9 stands where no two counters lead
unfoldable pub contexts : List ℕ
contexts = 2 ∷ 3 ∷ 4 ∷ 1 ∷ 3 ∷ 9 ∷ 0 ∷ 9 ∷ 9 ∷ 5 ∷ 5 ∷ 9 ∷ 5 ∷ 9 ∷ 9 ∷ 9 ∷ 9 ∷ 9 ∷ 6 ∷ []

-- idx_n_column_to_subblock: "second column when the place's column offset is 0"
unfoldable pub columns : List (List ℕ)
columns = (1 ∷ 2 ∷ []) ∷ (1 ∷ 3 ∷ []) ∷ (3 ∷ 2 ∷ []) ∷ (3 ∷ 3 ∷ []) ∷ []
