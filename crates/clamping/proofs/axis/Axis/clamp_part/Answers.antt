-- `clamp_part` meets its contract: no step of either end wraps. Assumes nothing.
use native.Mathlib.Omega.{arith}
use lib.IntN.{pos}
use mir.Syntax.{w32}
use mir.Val.{SFits}
use mir.Facts.{to_z-of_z}
use borrow.Author.Rules.{sfits_of}
use Rattle.base.proofs.Bd.{bd, lit, ◌⊕◌, ◌⊖◌, ◌⊛◌, fits, rd}
use Rattle.clamping.specs.Border.{clamp_part}
use Rattle.clamping.proofs.Bounds.{total, size, first, beyond}
use Rattle.clamping.proofs.axis.Axis.clamp_part.Goals as goal

pub overflow_add-self : goal.overflow_add-self
overflow_add-self c =
    let a = c.args.self in
    let cells = lit (pos 64) ⊛ beyond a in
    let border = bd c.args.border c.requires in
    rw (
      rd w32 (total a) tt,
      rd w32 (size a) tt,
      rd w32 (total a ⊖ size a) tt,
      rd w32 (first a) tt,
      rd w32 (beyond a) tt,
      rd w32 cells tt,
      rd w32 border tt,
    )
    (fits (cells ⊕ border) tt)

pub returns : goal.returns
unfolding clamp_part
returns c =
    let a = c.args.self in
    let low = lit (pos 64) ⊛ first a in
    let cells = lit (pos 64) ⊛ beyond a in
    let room = bd c.args.border c.requires in
    let v : SFits w32 c.args.v.0 = record { sfits = omega arith } in
    let e =
    rw (
      rd w32 (total a) tt,
      rd w32 (size a) tt,
      rd w32 (total a ⊖ size a) tt,
      rd w32 (first a) tt,
      rd w32 (beyond a) tt,
      rd w32 cells tt,
      rd w32 low tt,
      rd w32 (lit (pos 0) ⊖ low) tt,
      rd w32 room tt,
      rd w32 (lit (pos 0) ⊖ low ⊖ room) tt,
      rd w32 (cells ⊕ room) tt,
      to_z-of_z v,
    )
    at c.clip3.ensures in
    rw (to_z-of_z {w = w32} {z = c.clip3.result} (sfits_of c.clip3.type_inv), e)
