-- `passes::passes::block` meets its contract: the two passes, or the one that is needed. Assumes nothing.
use mathlib.Core.Bool.{true, false}
use mathlib.Core.Path.{◌≡◌, ◌∙◌}
use Prim.Native.Nat.{◌-◌, ◌*◌, ◌/◌, ◌≤◌}
use native.Mathlib.Nat.{mul-le-mul}
use native.Mathlib.Omega.{arith}
use borrow.Author.Tests.{eqb-true}
use Rattle.base.proofs.Painted.{paint_same}
use Rattle.base.proofs.Tests.{and_both}
use Rattle.taps.specs.Taps.{tap}
use Rattle.planes.specs.Seen.{seen}
use Rattle.planes.proofs.Fitting.{holds_long}
use Rattle.passes.proofs.Blocks.{whole-rows, room_whole, both_passes, room_held, written_same}
use Rattle.passes.proofs.passes.block.Goals as goal

pub pass_rows-requires-clause-room_value : goal.pass_rows-requires-clause-room_value
pass_rows-requires-clause-room_value c = holds_long _ _ _ _ (omega (arith, c.args.area.narrow, c.requires.bounds))

pub returns-then-mean : goal.returns-then-mean
returns-then-mean c =
    let a = c.args in
    let both = and_both _ _ c.if-y.true in
    let q : a.y.step ≡ 16 = eqb-true _ _ both.1 in
    let m : a.mean ≡ true = c.if-mean.true in
    rw (q, m)
    (rw c.pass_rows.ensures at c.rows_averaged.ensures
    ∙ written_same true _ _ _ _ _ _
    (room_whole a.area.max a.filter (seen a.plane) a.x.start a.x.step a.y.start a.area.width a.area.height a.room.now c.requires.bounds.0 (eqb-true _ _ both.0)
    a.area.narrow (omega (arith, a.area.narrow, c.requires.bounds))))

pub returns-then-y : goal.returns-then-y
returns-then-y c =
    let a = c.args in
    let both = and_both _ _ c.if-y.true in
    let q : a.y.step ≡ 16 = eqb-true _ _ both.1 in
    let m : a.mean ≡ false = c.if-mean.false in
    rw (q, m)
    (c.pass_rows-then-y.ensures
    ∙ paint_same _ _ _ _ _ _
    (λ i k ih kw. whole-rows a.area.max a.filter (seen a.plane) a.x.start a.x.step a.y.start i k c.requires.bounds.0 (eqb-true _ _ both.0)))

pub pass_rows-requires-2-clause-room_value : goal.pass_rows-requires-2-clause-room_value
pass_rows-requires-2-clause-room_value c =
    let a = c.args in
    let far : a.y.step * (a.area.height - 1) ≤ 32 * 63 = mul-le-mul {n₂ = 32} {m₂ = 63} a.y.slow (omega (arith, c.requires.bounds)) in
    holds_long _ _ _ _ (omega (arith, far, a.area.narrow, c.requires.bounds))

pub pass_down-requires-clause-held_room : goal.pass_down-requires-clause-held_room
pass_down-requires-clause-held_room c =
    let a = c.args in
    let far : a.y.step * (a.area.height - 1) ≤ 32 * 63 = mul-le-mul {n₂ = 32} {m₂ = 63} a.y.slow (omega (arith, c.requires.bounds)) in
    rw c.pass_rows-2.ensures
    (room_held a.area.max (tap a.filter) (seen a.plane) a.x.start a.x.step (a.y.start / 16) a.area.width _ a.room.now a.area.narrow
    (omega (arith, far, a.area.narrow, c.requires.bounds)))

pub returns : goal.returns
returns c =
    let a = c.args in
    let far : a.y.step * (a.area.height - 1) ≤ 32 * 63 = mul-le-mul {n₂ = 32} {m₂ = 63} a.y.slow (omega (arith, c.requires.bounds)) in
    rw c.pass_rows-2.ensures at c.pass_down.ensures
    ∙ written_same a.mean _ _ _ _ _ _
    (both_passes a.area.max (tap a.filter) (seen a.plane) a.x.start a.x.step a.y.start a.y.step a.area.width a.area.height a.room.now
    a.area.narrow c.requires.bounds.2 (omega (arith, far)))
