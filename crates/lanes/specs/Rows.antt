-- Internal: which samples rows of results look at. No definition that a caller reads cites this file. Assumes nothing.
use Rattle.std.specs.Prelude.{ℕ, ◌+◌, ◌*◌, ◌≤◌, ◌<◌, List}
use Rattle.taps.specs.Kernel.{apart}

-- for h rows of w results, line apart from place b on, the eight samples of each, n apart, are at most max
pub record LowRows (max : ℕ) (l : List ℕ) (n b line w h : ℕ) : Type 0 where
  pub le : (r c t : ℕ) → r < h → c < w → t < 8 → apart l n (b + r * line + c) t ≤ max
