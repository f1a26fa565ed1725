-- `start_of` meets its contract: each step fits by its bound. Assumes nothing.
use mathlib.Core.Path.{◌≡◌}
use Prim.Native.Nat.{◌*◌, ◌/◌, ◌^◌, ◌<◌}
use native.Mathlib.Omega.{arith}
use lib.IntN.{pos, ◌*ℤ◌}
use lib.Signed.{shr_z}
use mir.Syntax.{w32, w64}
use mir.Val.{to_z, of_z, hbits}
use mir.Facts.{to_z-of_z, to_z_pos}
use Rattle.base.proofs.Bd.{Bd, bd, ◌⊕◌, fits, rd}
use Rattle.scaling.specs.Scale.{start_of}
use Rattle.scaling.proofs.Scaled.{at_bd, frac_bd, product_bd, moved_bd}
use Rattle.scaling.proofs.scale.start_of.Goals as goal
use Rattle.scaling.proofs.scale.start_of.Goals.{After-from, Start}

at : (s : Start) → Bd 2097120 (pos (s.args.x * s.args.scale / 16384 * 16))
at s = at_bd s.args.x s.args.scale s.requires.place.0 s.requires.moved.0

product : (s : Start) → Bd 2147418112 (s.args.v *ℤ pos s.args.scale)
product s = product_bd s.args.v s.args.scale s.requires.moved.1 s.requires.moved.0

moved : (s : Start) → Bd 131069 (shr_z (s.args.v *ℤ pos s.args.scale) 16384)
moved s = moved_bd s.args.v s.args.scale s.requires.moved.1 s.requires.moved.0

frac : (c : After-from) → Bd 15 (pos c.frac_of-frac.result)
frac c = frac_bd c.frac_of-frac.result c.frac_of-frac.ensures.1

-- what stands in each local, read as the number that was put there
small : (s : Start) → s.args.scale < 2 ^ hbits w64
small s = omega arith

wide_is : (c : After-from) → to_z w64 (of_z w64 c.from.result) ≡ c.args.v
wide_is c =
    let e = rw (to_z-of_z c.ranges.v) at c.from.ensures in
    let b : Bd 65534 c.args.v = bd c.args.v c.requires.moved.1 in
    rw (e, rd w64 b tt)

moved-read : (c : After-from)
    → to_z w64 (of_z w64 (shr_z (to_z w64 (of_z w64 (to_z w64 (of_z w64 c.from.result) *ℤ to_z w64 c.args.scale))) 16384))
    ≡ shr_z (c.args.v *ℤ pos c.args.scale) 16384
moved-read c = rw (wide_is c, to_z_pos w64 (small c.before.before), rd w64 (product c.before.before) tt, rd w64 (moved c.before.before) tt)

frac-read : (c : After-from) → to_z w64 c.frac_of-frac.result ≡ pos c.frac_of-frac.result
frac-read c = let h = c.frac_of-frac.ensures.1 in to_z_pos w64 (omega arith)

at_read : (s : Start) → to_z w64 (s.args.x * s.args.scale / 16384 * 16) ≡ pos (s.args.x * s.args.scale / 16384 * 16)
at_read s = let h = (at s).le in to_z_pos w64 (omega arith)

pub overflow_cast-result : goal.overflow_cast-result
overflow_cast-result c =
    let all = at c.before.before ⊕ (moved c.before.before ⊕ frac c) in
    rw (moved-read c, frac-read c, rd w64 (moved c.before.before ⊕ frac c) tt, at_read c.before.before, rd w64 all tt) (fits all tt)

pub returns : goal.returns
unfolding start_of
returns c =
    let all = at c.before.before ⊕ (moved c.before.before ⊕ frac c) in
    rw (moved-read c, frac-read c, rd w64 (moved c.before.before ⊕ frac c) tt, at_read c.before.before, rd w64 all tt, rd w32 all tt, c.frac_of-frac.ensures.0)
