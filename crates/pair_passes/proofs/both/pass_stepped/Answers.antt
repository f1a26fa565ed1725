-- `pair_passes::both::pass_stepped` meets its contract. The loop keeps up that the first i rows are painted. Assumes nothing.
use mathlib.Core.Path.{◌∙◌}
use native.Mathlib.Omega.{arith}
use lib.ListN.{length}
use Rattle.base.proofs.Painted.{fill_same}
use Rattle.taps.specs.Taps.{tap}
use Rattle.taps.proofs.Loops.{paint_turn}
use Rattle.planes.specs.Seen.{seen}
use Rattle.planes.proofs.Fitting.{holds_row}
use Rattle.passes.specs.Lifted.{across_from}
use Rattle.passes.proofs.Blocks.{row_level}
use Rattle.pair_passes.proofs.both.pass_stepped.Goals as goal

pub overflow_mul-i : goal.overflow_mul-i
overflow_mul-i c =
    let a = c.args in
    let in_room = holds_row a.area.height a.rs a.area.width (length a.room.now) c.loop-i.i c.requires.room_value (omega arith) in
    omega (arith, in_room, c.well_formed)

pub row_across-requires : goal.row_across-requires
row_across-requires c =
    let a = c.args in
    let in_room = holds_row a.area.height a.rs a.area.width (length a.room.now) c.loop-i.i c.requires.room_value (omega arith) in
    omega (arith, a.plane.wide, a.x.near, a.x.slow, a.area.wide, a.area.narrow, in_room, c.loop-i.invariant.long, c.lifted_row-row.ensures.1)

pub loop-i-preserved : goal.loop-i-preserved
unfolding across_from
loop-i-preserved c =
    let a = c.args in
    paint_turn c.loop-i.invariant
    (rw c.lifted_row-row.ensures.0 at c.row_across.ensures
    ∙ fill_same _ _ _ _ _ (λ k kw. row_level a.area.max (tap 3) (seen a.plane) _ a.x.start a.x.step k a.plane.wide))
