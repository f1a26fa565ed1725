-- `allowed` meets its contract: in 64 bits no product of a 32-bit number with 2 or 16 wraps. Assumes nothing.
use Prim.Native.Nat.{◌^◌}
use lib.IntN.{pos}
use lib.Signed.{nat_abs-le}
use mir.Syntax.{w64}
use mir.Facts.{to_z-of_z}
use Rattle.base.proofs.Bd.{Bd, bd, lit, ◌⊛◌, rd}
use Rattle.scaling.specs.Scale.{allowed}
use Rattle.scaling.proofs.scale.allowed.Goals as goal

pub returns : goal.returns
unfolding allowed
returns c =
    let a : Bd (2 ^ 31) c.args.reference = bd c.args.reference (nat_abs-le c.args.reference c.ranges.reference.sfits) in
    let b : Bd (2 ^ 31) c.args.frame = bd c.args.frame (nat_abs-le c.args.frame c.ranges.frame.sfits) in
    rw (
      rw (to_z-of_z c.ranges.reference) at c.from-a.ensures,
      rw (to_z-of_z c.ranges.frame) at c.from-b.ensures,
      rd w64 a tt,
      rd w64 b tt,
      rd w64 (lit (pos 2) ⊛ b) tt,
      rd w64 (lit (pos 16) ⊛ a) tt,
    )
