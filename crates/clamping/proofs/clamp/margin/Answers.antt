-- `margin` meets its contract: each step fits by its bound. Assumes nothing.
use mathlib.Core.Path.{refl}
use Prim.Native.Nat.{◌^◌}
use lib.IntN.{pos}
use mir.Syntax.{w32}
use Rattle.base.proofs.Bd.{Bd, bd, lit, ◌⊕◌, ◌⊛◌, shr, rd}
use Rattle.clamping.specs.Clamp.{margin}
use Rattle.clamping.proofs.clamp.margin.Goals as goal
use Rattle.clamping.proofs.clamp.margin.Goals.{Start}

n : (c : Start) → Bd 8 c.args.n
n c = bd c.args.n c.requires.0

pub returns : goal.returns
unfolding margin
returns c =
    let n8 = n c ⊛ lit (pos 8) in
    let m = shr (2 ^ c.args.s) n8 in
    let k = lit (pos 4) ⊕ m in
    let all = k ⊛ lit (pos 16) in
    rw (rd w32 (n c) tt, rd w32 n8 tt, rd w32 m tt, rd w32 k tt, rd w32 all tt) (refl, all.le)
