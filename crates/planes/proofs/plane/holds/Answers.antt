-- `planes::plane::holds` meets its contract: the product is small. Assumes nothing.
use Prim.Native.Nat.{◌-◌, ◌*◌, ◌≤◌}
use native.Mathlib.Nat.{mul-le-mul}
use native.Mathlib.Omega.{arith}
use Rattle.planes.proofs.plane.holds.Goals as goal
use Rattle.planes.proofs.plane.holds.Goals.{Start as AtStart}

bound : (s : AtStart) → (s.args.rows - 1) * s.args.stride ≤ 2147483648 * 131072
bound s = mul-le-mul {n₂ = 2147483648} {m₂ = 131072} (omega (arith, s.requires)) s.requires.1

pub overflow_mul-result : goal.overflow_mul-result
overflow_mul-result c = omega (arith, bound c.before)

pub overflow_add-result : goal.overflow_add-result
overflow_add-result c = omega (arith, bound c.before)
