-- Block sizes 0..12, from 4x4 to 64x64, in cells of 8 by 8 luma samples: the standard's num_8x8_blocks_high_lookup and
-- num_8x8_blocks_wide_lookup (10.2 of the standard; document 01 names src/partition.rs). Assumes nothing.
use Rattle.std.specs.Prelude.{ℕ, List, [], ◌∷◌, get_or, ℤ, pos}

abbrev pub highs : List ℤ
highs =
    pos 1 ∷ pos 1 ∷ pos 1 ∷ pos 1 ∷ pos 2 ∷ pos 1 ∷ pos 2 ∷ pos 4 ∷ pos 2 ∷ pos 4 ∷ pos 8 ∷ pos 4 ∷ pos 8 ∷ []

abbrev pub wides : List ℤ
wides =
    pos 1 ∷ pos 1 ∷ pos 1 ∷ pos 1 ∷ pos 1 ∷ pos 2 ∷ pos 2 ∷ pos 2 ∷ pos 4 ∷ pos 4 ∷ pos 4 ∷ pos 8 ∷ pos 8 ∷ []

-- rows of cells
abbrev pub high : ℕ → ℤ
high size = get_or highs size (pos 0)

-- columns of cells
abbrev pub wide : ℕ → ℤ
wide size = get_or wides size (pos 0)
