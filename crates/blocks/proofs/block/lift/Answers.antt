-- `blocks::block::lift` meets its contract: an accepted start is far from the ends of its width. Assumes nothing.
use native.Mathlib.Omega.{arith}
use mir.Syntax.{w32, w64}
use Rattle.base.proofs.Lift.{start}
use Rattle.base.proofs.Casts.{sum_fits, lift_casts, lift_gives}
use Rattle.blocks.proofs.block.lift.Goals as goal

pub overflow_add-result : goal.overflow_add-result
overflow_add-result c =
    let z = c.args.z.0 in
    let u = start z c.requires in
    sum_fits w32 w64 z 3200000 u.q (record { sfits = c.struct_told-1.given.0.1 }) u.is.is (omega (arith, u.high))

pub overflow_cast-result : goal.overflow_cast-result
overflow_cast-result c =
    let z = c.args.z.0 in
    let u = start z c.requires in
    lift_casts w32 w64 z 3200000 u.q (record { sfits = c.struct_told-1.given.0.1 }) u.is.is (omega (arith, u.high)) (omega (arith, u.high))

pub returns : goal.returns
returns c =
    let z = c.args.z.0 in
    let u = start z c.requires in
    rw
    (lift_gives w32 w64 z 3200000 u.q (record { sfits = c.struct_told-1.given.0.1 }) u.is.is (omega (arith, u.high)))
    (u.is, u.high)
