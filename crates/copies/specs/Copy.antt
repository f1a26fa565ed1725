-- Internal: what rows of copies are, on lists and on lifted positions. No definition that a caller reads cites this file. Assumes nothing.
use Rattle.std.specs.Prelude.{ℕ, ◌+◌, ◌*◌, ◌≤◌, ◌<◌, min, List}
use Rattle.base.specs.Paint.{fill}
use Rattle.taps.specs.Kernel.{alike, clipped, held_from}

-- each of n rows of w numbers, stride apart from place at on, ends within len numbers
pub record Rows (n stride w at len : ℕ) : Type 0 where
  pub ends : (i : ℕ) → i < n → at + i * stride + w ≤ len

-- rows of copies: row i has its samples from place at + i x stride on
unfoldable pub clipped_rows : ℕ → List ℕ → ℕ → ℕ → ℕ → ℕ → ℕ
clipped_rows max l at stride i = clipped max l (at + i * stride)

-- a run of one sample, a run of f, and another of one sample
abbrev pub three_runs : List ℕ → ℕ → ℕ → ℕ → ℕ → ℕ → (ℕ → ℕ) → ℕ → List ℕ
three_runs l at before inside after x f y =
    fill (fill (fill l at before (alike x)) (at + before) inside f) (at + before + inside) after (alike y)

-- a row of copies of held samples, from the lifted column b on
unfoldable pub still : ℕ → List ℕ → ℕ → ℕ → ℕ → ℕ
still max row last b c = min (held_from row last b c) max
