-- `blocks::block::top` meets its contract: 12 bits less those that the depth lacks. Assumes nothing.
use mathlib.Core.Path.{◌≡◌, refl}
use Prim.Native.Nat.{ℕ, ◌-◌, ◌/◌, ◌^◌, ◌≤◌}
use native.Mathlib.Omega.{arith}
use mir.Syntax.{w16}
use mir.Val.{Fits}
use Rattle.blocks.proofs.Depths.{by-depth}
use Rattle.blocks.proofs.block.top.Goals as goal

pub overflow_sub-result : goal.overflow_sub-result
overflow_sub-result c = by-depth (λ (d : ℕ). d ≤ 12) c.args.shape c.requires (omega arith) (omega arith) (omega arith)

pub overflow_cast-result : goal.overflow_cast-result
overflow_cast-result c =
    by-depth (λ (d : ℕ). Fits w16 (4095 / 2 ^ (12 - d))) c.args.shape c.requires
    (record { fits = omega arith })
    (record { fits = omega arith })
    (record { fits = omega arith })

pub returns : goal.returns
returns c = by-depth (λ (d : ℕ). 4095 / 2 ^ (12 - d) ≡ 2 ^ d - 1) c.args.shape c.requires refl refl refl
