-- `pair_passes::both::through_room` meets its contract: the vertical pass over what the horizontal one left. Assumes nothing.
use mathlib.Core.Path.{◌∙◌}
use Prim.Native.Nat.{◌+◌, ◌-◌, ◌*◌, ◌/◌, ◌≤◌}
use native.Mathlib.Nat.{mul-le-mul}
use native.Mathlib.Omega.{arith}
use Rattle.taps.specs.Taps.{tap}
use Rattle.planes.specs.Seen.{seen}
use Rattle.planes.proofs.Fitting.{holds_long}
use Rattle.passes.proofs.Blocks.{room_held, written_same}
use Rattle.pair_passes.proofs.TwoRows.{two_rows}
use Rattle.pair_passes.proofs.both.through_room.Goals as goal

pub pass_pairs-requires-clause-room_value : goal.pass_pairs-requires-clause-room_value
pass_pairs-requires-clause-room_value c =
    let a = c.args in
    let far : a.y.step * (a.area.height - 1) ≤ 32 * 63 = mul-le-mul {n₂ = 32} {m₂ = 63} a.y.slow (omega (arith, c.requires.bounds)) in
    holds_long _ _ _ _ (omega (arith, far, a.area.narrow, c.requires.bounds))

pub pass_down-requires-clause-held_room : goal.pass_down-requires-clause-held_room
pass_down-requires-clause-held_room c =
    let a = c.args in
    let far : a.y.step * (a.area.height - 1) ≤ 32 * 63 = mul-le-mul {n₂ = 32} {m₂ = 63} a.y.slow (omega (arith, c.requires.bounds)) in
    rw c.pass_pairs.ensures
    (room_held a.area.max (tap 3) (seen a.plane) a.x.start a.x.step (a.y.start / 16 + 3) a.area.width _ a.room.now a.area.narrow
    (omega (arith, far, a.area.narrow, c.requires.bounds)))

pub returns : goal.returns
returns c =
    let a = c.args in
    let far : a.y.step * (a.area.height - 1) ≤ 32 * 63 = mul-le-mul {n₂ = 32} {m₂ = 63} a.y.slow (omega (arith, c.requires.bounds)) in
    rw c.pass_pairs.ensures at c.pass_down.ensures
    ∙ written_same a.mean _ _ _ _ _ _
    (two_rows a.area.max (seen a.plane) a.x.start a.x.step a.y.start a.y.step a.area.width a.area.height a.room.now
    a.area.narrow c.requires.bounds.1 (omega (arith, far)))
