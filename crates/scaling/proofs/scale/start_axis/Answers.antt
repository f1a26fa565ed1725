-- `start_axis` meets its contract: an accepted call's numbers are small enough for each step. Assumes nothing.
use mathlib.Core.Path.{◌≡◌}
use Rattle.base.specs.Position.{to_n}
use mir.Syntax.{w32}
use mir.Facts.{to_z-of_z}
use Rattle.base.proofs.Bd.{Bd, bd, rd}
use Rattle.scaling.specs.Scale.{start_axis, scale_of}
use Rattle.scaling.proofs.Tested.{Sizes, usable_sizes, placed_small}
use Rattle.scaling.proofs.scale.start_axis.Goals as goal
use Rattle.scaling.proofs.scale.start_axis.Goals.{After-natural, After-natural-2, After-natural-at, Start}

sizes : (s : Start) → Sizes (to_n s.args.reference) (to_n s.args.frame)
sizes s = usable_sizes s.args.reference s.args.frame s.requires.accepted.0

reference-is : (c : After-natural) → c.natural.result ≡ to_n c.args.reference
reference-is c = rw (to_z-of_z c.ranges.reference) at c.natural.ensures

frame_is : (c : After-natural-2) → c.natural-2.result ≡ to_n c.args.frame
frame_is c = rw (to_z-of_z c.ranges.frame) at c.natural-2.ensures

x-is : (c : After-natural-at) → c.natural-at.result ≡ to_n c.args.x
x-is c = rw (to_z-of_z c.ranges.x) at c.natural-at.ensures

scale-is : (c : After-natural-at) → c.scale_of-scale.result ≡ scale_of (to_n c.args.reference) (to_n c.args.frame)
scale-is c = cc (c.scale_of-scale.ensures.0, reference-is c.before.before.before, frame_is c.before.before)

vector : (s : Start) → Bd 65534 s.args.v.0
vector s = bd s.args.v.0 s.requires.vector

pub scale_of-scale-requires : goal.scale_of-scale-requires
scale_of-scale-requires c =
    let z = sizes c.before.before in
    rw (reference-is c.before, frame_is c) (z.small, (z.frame-low, z.double))

pub luma_of-requires : goal.luma_of-requires
luma_of-requires c = rw (x-is c) (placed_small c.args.x c.requires.accepted.1)

pub start_of-requires-clause-place : goal.start_of-requires-clause-place
start_of-requires-clause-place c = (rw (x-is c.before.before.before) (placed_small c.args.x c.requires.accepted.1), c.luma_of.ensures.1)

pub returns : goal.returns
unfolding start_axis
returns c =
    let luma = c.luma_of.ensures.0 in
    cc (
      c.start_of.ensures,
      rd w32 (vector c.before.before.before.before.before.before.before) tt,
      luma,
      x-is c.before.before.before,
      scale-is c.before.before.before,
    )
