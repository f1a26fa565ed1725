-- Internal: the call that the code makes below. No definition that a caller reads cites this file. Assumes nothing.
use Rattle.std.specs.Prelude.{ℕ, ◌-◌, ◌<◌, ◌≤◌, ◌≡◌, List}
use Rattle.base.specs.Paint.{paint, on_part}
use Rattle.samples.specs.Call as Call
use Rattle.samples.specs.Call.{Call, value}

-- where a block has samples, its call is accepted on the part of an output of n samples from place i on, with a room of m
pub record Ready (k : Call) (i n m : ℕ) : Type 0 where
  pub place : 0 < k.shape.w → 0 < k.shape.h → i ≤ n
  pub taken : 0 < k.shape.w → 0 < k.shape.h → Call.number_of k (n - i) m ≡ 0

-- a block's samples painted from place i on
unfoldable pub paint_from : ℕ → Call → List ℕ → List ℕ
paint_from i k out = on_part i (λ (l : List ℕ). paint l k.stride k.shape.w k.shape.h (value k)) out
