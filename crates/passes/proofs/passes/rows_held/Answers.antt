-- `passes::passes::rows_held` meets its contract. The loop keeps up that the first j rows are painted. Assumes nothing.
use mathlib.Core.Path.{◌∙◌}
use native.Mathlib.Omega.{arith}
use lib.ListN.{length}
use Rattle.base.proofs.Painted.{fill_same}
use Rattle.taps.proofs.Loops.{paint_turn}
use Rattle.planes.specs.Seen.{seen}
use Rattle.planes.proofs.Fitting.{holds_row}
use Rattle.passes.specs.Lifted.{copy_from}
use Rattle.passes.proofs.Copied.{row_still}
use Rattle.passes.proofs.passes.rows_held.Goals as goal

pub overflow_mul-j : goal.overflow_mul-j
overflow_mul-j c =
    let a = c.args in
    let in-out = holds_row a.area.height a.rs a.area.width (length a.out.now) c.loop-j.j c.requires.out_value (omega arith) in
    omega (arith, in-out, c.well_formed)

pub row_held-requires : goal.row_held-requires
row_held-requires c =
    let a = c.args in
    let in-out = holds_row a.area.height a.rs a.area.width (length a.out.now) c.loop-j.j c.requires.out_value (omega arith) in
    omega (arith, a.plane.wide, a.area.narrow, c.requires.places, in-out, c.loop-j.invariant.long, c.lifted_row-row.ensures.1)

pub loop-j-preserved : goal.loop-j-preserved
unfolding copy_from
loop-j-preserved c =
    let a = c.args in
    paint_turn c.loop-j.invariant
    (rw c.lifted_row-row.ensures.0 at c.row_held.ensures
    ∙ fill_same _ _ _ _ _ (λ k kw. row_still a.area.max (seen a.plane) _ a.b k a.plane.wide))
