-- `clamp` meets its contract: each step fits by its bound, and the machine reads back what fits. Assumes nothing.
use Prim.Native.Nat.{◌^◌}
use lib.IntN.{pos}
use mir.Syntax.{w32}
use mir.Facts.{to_z-of_z}
use borrow.Author.Rules.{sfits_of}
use Rattle.base.proofs.Legal.{legal_bd}
use Rattle.base.proofs.Bd.{bd, lit, ◌⊕◌, ◌⊖◌, ◌⊛◌, shr, fits, rd}
use Rattle.clamping.specs.Clamp.{clamp_axis}
use Rattle.clamping.proofs.Bounds.{total, size, first, beyond}
use Rattle.clamping.proofs.axis.Axis.clamp.Goals as goal

pub overflow_mul-x : goal.overflow_mul-x
overflow_mul-x c = let v = legal_bd c.args.v c.requires.legal in rw (rd w32 v tt) (fits (lit (pos 2) ⊛ v) tt)

pub returns : goal.returns
unfolding clamp_axis
returns c =
    let a = c.args.self in
    let near = bd c.edge-near.result c.edge-near.ensures.1 in
    let far = bd c.edge-far.result c.edge-far.ensures.1 in
    let room = bd c.margin-room.result c.margin-room.ensures.1 in
    let less = room ⊖ lit (pos 16) in
    let v = legal_bd c.args.v c.requires.legal in
    let doubled = lit (pos 2) ⊛ v in
    let near-is = rw (rd w32 (first a) tt, rd w32 (lit (pos 0) ⊖ first a) tt) at c.edge-near.ensures.0 in
    let far_is = rw (rd w32 (total a) tt, rd w32 (size a) tt, rd w32 (total a ⊖ size a) tt, rd w32 (first a) tt, rd w32 (beyond a) tt)
    at c.edge-far.ensures.0 in
    let room-is = rw (rd w32 (size a) tt) at c.margin-room.ensures.0 in
    let ends = rw (
      rd w32 near tt,
      rd w32 room tt,
      rd w32 (near ⊖ room) tt,
      rd w32 far tt,
      rd w32 less tt,
      rd w32 (far ⊕ less) tt,
      rd w32 v tt,
      rd w32 doubled tt,
      rd w32 (shr (2 ^ c.args.s) doubled) tt,
    ) at c.clip3.ensures in
    let read = to_z-of_z {w = w32} {z = c.clip3.result} (sfits_of c.clip3.type_inv) in
    cc (read, ends, near-is, far_is, room-is)
