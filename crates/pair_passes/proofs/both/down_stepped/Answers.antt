-- `pair_passes::both::down_stepped` meets its contract. The loop keeps up that the first r rows are painted. Assumes nothing.
use Prim.Native.Nat.{◌*◌, ◌≤◌}
use native.Mathlib.Nat.{mul-le-mul}
use native.Mathlib.Omega.{arith}
use lib.ListN.{length}
use Rattle.planes.proofs.Fitting.{holds_row}
use Rattle.passes.proofs.Blocks.{written_turn}
use Rattle.pair_passes.specs.PairDown.{pair_down}
use Rattle.pair_passes.proofs.TwoRows.{low_row}
use Rattle.pair_passes.proofs.both.down_stepped.Goals as goal

pub overflow_mul-r : goal.overflow_mul-r
overflow_mul-r c =
    let a = c.args in
    let in-out = holds_row a.area.height a.stride a.area.width (length a.out.now) c.loop-r.r c.requires.out_value (omega arith) in
    omega (arith, in-out, c.well_formed)

pub row_written-requires-clause-bounds : goal.row_written-requires-clause-bounds
row_written-requires-clause-bounds c =
    let a = c.args in
    let far : a.y.step * c.loop-r.r ≤ 32 * 63 = mul-le-mul {n₂ = 32} {m₂ = 63} a.y.slow (omega (arith, c.requires.bounds)) in
    let in-out = holds_row a.area.height a.stride a.area.width (length a.out.now) c.loop-r.r c.requires.out_value (omega arith) in
    omega (arith, far, a.area.narrow, a.area.deep, c.requires.bounds, in-out, c.loop-r.invariant.long)

pub row_written-requires-clause-low : goal.row_written-requires-clause-low
row_written-requires-clause-low c =
    let a = c.args in
    low_row a.area.max a.room.now a.area.width a.y.start a.y.step c.loop-r.r a.area.height c.requires.held_room (omega arith)

pub loop-r-preserved : goal.loop-r-preserved
unfolding pair_down
loop-r-preserved c =
    let a = c.args in
    written_turn a.mean (pair_down a.area.max a.room.now a.y.start a.y.step) c.requires.apart c.loop-r.invariant
    (rw c.of.ensures at c.row_written.ensures)
