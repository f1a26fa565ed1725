-- The bounds that an axis carries, as numbers with a bound. Assumes nothing.
use Prim.Native.Nat.{ℕ, ◌^◌, ◌≤◌}
use lib.Dec.{T, ltb}
use lib.IntN.{ℤ, nat_abs, ◌-ℤ◌}
use mir.Syntax.{w32}
use mir.Val.{to_z, of_z, hbits}
use Rattle.base.proofs.Bd.{Bd, bd, ◌⊖◌, rd}
use Rattle.clamping.specs.declared.axis.Axis.{Axis}

-- a bounded number, as the machine reads it back
pub reads : {n : ℕ} {z : ℤ} → Bd n z → T (ltb n (2 ^ hbits w32)) → nat_abs (to_z w32 (of_z w32 z)) ≤ n
reads x t = rw (rd w32 x t) x.le

pub total : (a : Axis) → Bd 8192 a.total
total a = bd a.total a.total_bound

pub size : (a : Axis) → Bd 8 a.length
size a = bd a.length a.length_bound

pub first : (a : Axis) → Bd 8192 a.first
first a = bd a.first a.first_bound

-- how many cells stand beyond the block
pub beyond : (a : Axis) → Bd 16392 (a.total -ℤ a.length -ℤ a.first)
beyond a = total a ⊖ size a ⊖ first a
