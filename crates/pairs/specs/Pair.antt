-- Internal: what the rows of filter 3 compute, on lists. No definition that a caller reads cites this file. Assumes nothing.
use Rattle.std.specs.Prelude.{ℕ, ◌+◌, ◌-◌, ◌*◌, ◌/◌, ◌%◌, ◌≤◌, ◌<◌, min, List, get_or}
use Rattle.taps.specs.Taps.{tap}
use Rattle.taps.specs.Filter.{filtered}

-- the samples of l, n apart, of which the fourth stands at place s. Filter 3 looks at the fourth and the fifth; the first three are told as the fourth
unfoldable pub fourth_at : List ℕ → ℕ → ℕ → ℕ → ℕ
fourth_at l n s t = get_or l (s + n * (t - 3)) 0

-- a row of results of filter 3 at one phase: column c has its fourth sample at place b + c
unfoldable pub pair_ran : ℕ → ℕ → List ℕ → ℕ → ℕ → ℕ → ℕ
pair_ran max phase l n b c = filtered max (tap 3 phase) (fourth_at l n (b + c))

-- rows of them, line apart
unfoldable pub pair_rows : ℕ → ℕ → List ℕ → ℕ → ℕ → ℕ → ℕ → ℕ → ℕ
pair_rows max phase l n b line r = pair_ran max phase l n (b + r * line)

-- a row whose phase changes: column c stands at phase + step x c past place d
unfoldable pub pair_stepped : ℕ → List ℕ → ℕ → ℕ → ℕ → ℕ → ℕ
pair_stepped max l d phase step c = filtered max (tap 3 ((phase + step * c) % 16)) (fourth_at l 1 (d + (phase + step * c) / 16))

-- the two products of the fourth sample and the fifth, an eighth of each, and what rounding adds
unfoldable pub pair_sum : ℕ → ℕ → ℕ → ℕ
pair_sum phase d e = (16 - phase) * d + phase * e + 8

-- what the code makes of two samples
unfoldable pub pair_of : ℕ → ℕ → ℕ → ℕ → ℕ
pair_of max phase d e = min (pair_sum phase d e / 16) max

-- what it makes of them in sixteen bits
unfoldable pub low_pair : ℕ → ℕ → ℕ → ℕ
low_pair phase d e = pair_sum phase d e % 65536 / 16

-- a row of these
unfoldable pub low_pairs : ℕ → List ℕ → ℕ → ℕ → ℕ → ℕ
low_pairs phase l n b c = low_pair phase (get_or l (b + c) 0) (get_or l (b + c + n) 0)

-- rows of them, line apart
unfoldable pub low_pair_rows : ℕ → List ℕ → ℕ → ℕ → ℕ → ℕ → ℕ → ℕ
low_pair_rows phase l n b line r = low_pairs phase l n (b + r * line)

-- in h rows, line apart from place b on, the w samples and those n past them are at most max
pub record Low (max : ℕ) (l : List ℕ) (n b line w h : ℕ) : Type 0 where
  pub fourth : (r c : ℕ) → r < h → c < w → get_or l (b + r * line + c) 0 ≤ max
  pub fifth : (r c : ℕ) → r < h → c < w → get_or l (b + r * line + c + n) 0 ≤ max
