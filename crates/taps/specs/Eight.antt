-- Internal: a tap that is ready for unsigned sums. Assumes nothing.
use Rattle.std.specs.Prelude.{ℕ, ◌≤◌, ◌≡◌, ℤ, pos, ◌+ℤ◌}

-- p is the tap z with 24 added
pub record Raised (p : ℕ) (z : ℤ) : Type 0 where
  pub is : pos p ≡ z +ℤ pos 24
  pub le : p ≤ 152
