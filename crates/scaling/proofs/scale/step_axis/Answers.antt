-- `step_axis` meets its contract: an allowed step is small. Assumes nothing.
use mathlib.Core.Path.{◌≡◌}
use Prim.Native.Nat.{◌*◌, ◌/◌}
use native.Mathlib.Omega.{arith}
use Rattle.base.specs.Position.{to_n}
use mir.Syntax.{w32}
use mir.Facts.{to_z-of_z, to_z_pos}
use Rattle.scaling.specs.Scale.{step_axis, step_of, scale_of}
use Rattle.scaling.proofs.Tested.{Sizes, usable_sizes}
use Rattle.scaling.proofs.scale.step_axis.Goals as goal
use Rattle.scaling.proofs.scale.step_axis.Goals.{After-natural, After-natural-2, After-scale_of-scale, Start}

sizes : (s : Start) → Sizes (to_n s.args.reference) (to_n s.args.frame)
sizes s = usable_sizes s.args.reference s.args.frame s.requires

reference-is : (c : After-natural) → c.natural.result ≡ to_n c.args.reference
reference-is c = rw (to_z-of_z c.ranges.reference) at c.natural.ensures

frame_is : (c : After-natural-2) → c.natural-2.result ≡ to_n c.args.frame
frame_is c = rw (to_z-of_z c.ranges.frame) at c.natural-2.ensures

scale-is : (c : After-scale_of-scale) → c.scale_of-scale.result ≡ scale_of (to_n c.args.reference) (to_n c.args.frame)
scale-is c = cc (c.scale_of-scale.ensures.0, reference-is c.before.before, frame_is c.before)

pub scale_of-scale-requires : goal.scale_of-scale-requires
scale_of-scale-requires c =
    let z = sizes c.before.before in
    rw (reference-is c.before, frame_is c) (z.small, (z.frame-low, z.double))

pub returns : goal.returns
unfolding step_axis step_of
returns c =
    let h = c.scale_of-scale.ensures.1 in
    let read = to_z_pos w32 {n = 16 * c.scale_of-scale.result / 16384} (omega arith) in
    cc (read, scale-is c)
