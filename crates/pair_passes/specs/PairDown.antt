-- Internal: what the vertical pass of filter 3 computes. No definition that a caller reads cites this file. Assumes nothing.
use Rattle.std.specs.Prelude.{ℕ, ◌+◌, ◌-◌, ◌*◌, ◌/◌, ◌%◌, List}
use Rattle.pairs.specs.Pair.{pair_ran}

-- over a room whose rows are 64 apart and begin at the fourth of the first eight that the taps reach
unfoldable pub pair_down : ℕ → List ℕ → ℕ → ℕ → ℕ → ℕ → ℕ
pair_down max room start step r = pair_ran max ((start + step * r) % 16) room 64 (((start + step * r) / 16 - start / 16) * 64)
