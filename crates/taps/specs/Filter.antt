-- The one-sample sum of document 01, 'Samples' (the standard's 8.5.2.4), which both passes share. Assumes nothing.
use Rattle.std.specs.Prelude.{ℕ, zero, suc, ℤ, pos, ◌+ℤ◌, ◌*ℤ◌}
use Rattle.base.specs.Position.{floor_by, hold}

-- the sum over t below n of f t times x t
abbrev pub sum : ℕ → (ℕ → ℤ) → (ℕ → ℕ) → ℤ
sum zero f x = pos 0
sum (suc n) f x = sum n f x +ℤ f n *ℤ pos (x n)

-- eight taps over eight samples: "add 64, divide by 128 rounding down, hold into 0..2^depth - 1"
unfoldable pub filtered : ℕ → (ℕ → ℤ) → (ℕ → ℕ) → ℕ
filtered max f x = hold max (floor_by 128 (sum 8 f x +ℤ pos 64))
