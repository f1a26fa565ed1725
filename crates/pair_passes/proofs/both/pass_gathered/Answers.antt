-- `pair_passes::both::pass_gathered` meets its contract. The loop keeps up that the first j rows are painted. Assumes nothing.
use mathlib.Core.Path.{◌∙◌}
use native.Mathlib.Omega.{arith}
use lib.ListN.{length}
use Rattle.base.proofs.Painted.{fill_same}
use Rattle.taps.proofs.Loops.{paint_turn, one-row}
use Rattle.planes.specs.Seen.{seen}
use Rattle.planes.proofs.Fitting.{holds_row}
use Rattle.pair_passes.proofs.TwoRows.{line_is}
use Rattle.pair_passes.proofs.both.pass_gathered.Goals as goal

pub overflow_mul-j : goal.overflow_mul-j
overflow_mul-j c =
    let a = c.args in
    let in_room = holds_row a.area.height a.rs a.area.width (length a.room.now) c.loop-j.j c.requires.room_value (omega arith) in
    omega (arith, in_room, c.well_formed)

pub rows_any-requires-clause-w_in_bounds : goal.rows_any-requires-clause-w_in_bounds
rows_any-requires-clause-w_in_bounds c =
    let a = c.args in
    let in_room = holds_row a.area.height a.rs a.area.width (length a.room.now) c.loop-j.j c.requires.room_value (omega arith) in
    (omega arith, omega (arith, in_room, c.loop-j.invariant.long))

pub loop-j-preserved : goal.loop-j-preserved
loop-j-preserved c =
    let a = c.args in
    paint_turn c.loop-j.invariant
    (rw c.of-p.ensures at c.rows_any.ensures
    ∙ one-row _ _ _ _ _
    ∙ fill_same _ _ _ _ _ (line_is a.area.max (seen a.plane) _ a.start a.y0 c.loop-j.j a.area.width c.gather_rows.ensures))
