-- `edge` meets its contract: each step fits by its bound. Assumes nothing.
use mathlib.Core.Path.{refl}
use Prim.Native.Nat.{◌^◌}
use lib.IntN.{pos}
use mir.Syntax.{w32}
use Rattle.base.proofs.Bd.{Bd, bd, lit, ◌⊛◌, shr, rd}
use Rattle.clamping.specs.Clamp.{edge}
use Rattle.clamping.proofs.clamp.edge.Goals as goal
use Rattle.clamping.proofs.clamp.edge.Goals.{Start}

cells : (c : Start) → Bd 16392 c.args.cells
cells c = bd c.args.cells c.requires.0

pub returns : goal.returns
unfolding edge
returns c =
    let x = cells c in
    let x8 = x ⊛ lit (pos 8) in
    let all = x8 ⊛ lit (pos 16) in
    let e = shr (2 ^ c.args.s) all in
    rw (rd w32 x tt, rd w32 x8 tt, rd w32 all tt, rd w32 e tt) (refl, e.le)
