-- `passes::passes::pass_down_stepped` meets its contract. The loop keeps up that the first r rows are painted. Assumes nothing.
use Prim.Native.Nat.{◌*◌, ◌≤◌}
use native.Mathlib.Nat.{mul-le-mul}
use native.Mathlib.Omega.{arith}
use lib.ListN.{length}
use Rattle.taps.specs.Taps.{tap}
use Rattle.planes.proofs.Fitting.{holds_row}
use Rattle.passes.specs.Lifted.{down_at}
use Rattle.passes.proofs.Blocks.{below_row, written_turn}
use Rattle.passes.proofs.passes.pass_down_stepped.Goals as goal

pub overflow_mul-r : goal.overflow_mul-r
overflow_mul-r c =
    let a = c.args in
    let in-out = holds_row a.area.height a.stride a.area.width (length a.out.now) c.loop-r.r c.requires.out_value (omega arith) in
    omega (arith, in-out, c.well_formed)

pub row_written-requires-clause-bounds : goal.row_written-requires-clause-bounds
row_written-requires-clause-bounds c =
    let a = c.args in
    let far : a.y.step * c.loop-r.r ≤ 32 * 63 = mul-le-mul {n₂ = 32} {m₂ = 63} a.y.slow (omega (arith, c.requires.bounds)) in
    let in-out = holds_row a.area.height a.stride a.area.width (length a.out.now) c.loop-r.r c.requires.out_value (omega arith) in
    omega (arith, far, a.area.narrow, a.area.deep, c.requires.bounds, in-out, c.loop-r.invariant.long)

pub row_written-requires-clause-below : goal.row_written-requires-clause-below
row_written-requires-clause-below c =
    let a = c.args in
    below_row a.area.max a.room.now a.area.width a.y.start a.y.step c.loop-r.r a.area.height c.requires.held_room (omega arith)

pub loop-r-preserved : goal.loop-r-preserved
unfolding down_at
loop-r-preserved c =
    let a = c.args in
    let taps = c.taps_at-p.ensures in
    written_turn a.mean (down_at a.area.max (tap a.filter) a.room.now a.y.start a.y.step) c.requires.apart c.loop-r.invariant
    (rw (taps.0, taps.1) at c.row_written.ensures)
