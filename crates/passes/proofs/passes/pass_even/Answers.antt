-- `passes::passes::pass_even` meets its contract: rows of one band where nothing has to be held. Assumes nothing.
use mathlib.Core.Path.{◌∙◌}
use Prim.Native.Nat.{◌-◌}
use native.Mathlib.Omega.{arith}
use lib.ListN.{length}
use Rattle.base.proofs.Painted.{paint_same}
use Rattle.taps.specs.Taps.{tap}
use Rattle.taps.proofs.Loops.{rows_paint}
use Rattle.planes.specs.Seen.{seen}
use Rattle.planes.proofs.Fitting.{holds_row}
use Rattle.passes.proofs.Copied.{even_row}
use Rattle.passes.proofs.passes.pass_even.Goals as goal

pub rows_across-requires-clause-w_in_bounds : goal.rows_across-requires-clause-w_in_bounds
rows_across-requires-clause-w_in_bounds c =
    let a = c.args in
    let in_room = holds_row a.area.height a.rs a.area.width (length a.room.now) (a.area.height - 1) c.requires.room_value (omega (arith, a.area.high)) in
    let last = c.in-Some.ensures.stands.inside.ends (a.area.height - 1) (omega (arith, a.area.high)) in
    omega (arith, last, in_room)

pub returns-in-Some : goal.returns-in-Some
returns-in-Some c =
    let a = c.args in
    rw c.requires.places.0 at c.rows_across.ensures
    ∙ rows_paint _ _ _ _ _
    ∙ paint_same _ _ _ _ _ _ (even_row a.area.max (tap a.p.filter) (seen a.plane) _ _ _ a.start a.y0 a.area.width a.area.height c.in-Some.ensures.stands.is)
