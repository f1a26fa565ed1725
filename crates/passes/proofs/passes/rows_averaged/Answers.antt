-- `passes::passes::rows_averaged` meets its contract. The loop keeps up that the first r rows are painted. Assumes nothing.
use mathlib.Core.Bool.{true}
use native.Mathlib.Omega.{arith}
use lib.ListN.{length}
use Rattle.planes.proofs.Fitting.{holds_row}
use Rattle.passes.specs.Lifted.{room_at}
use Rattle.passes.proofs.Blocks.{written_turn}
use Rattle.passes.proofs.passes.rows_averaged.Goals as goal

pub overflow_mul-r-in-loop-r : goal.overflow_mul-r-in-loop-r
overflow_mul-r-in-loop-r c =
    let a = c.args in
    let in-out = holds_row a.h a.stride a.w (length a.out.now) c.loop-r.r c.requires.out_value (omega arith) in
    omega (arith, in-out, c.well_formed)

pub row_averaged-requires : goal.row_averaged-requires
row_averaged-requires c =
    let a = c.args in
    let in-out = holds_row a.h a.stride a.w (length a.out.now) c.loop-r.r c.requires.out_value (omega arith) in
    omega (arith, c.requires.w_bound, in-out, c.loop-r.invariant.long)

pub loop-r-preserved : goal.loop-r-preserved
unfolding room_at
loop-r-preserved c = written_turn true (room_at c.args.room.now) (λ is. c.requires.w_bound.3) c.loop-r.invariant c.row_averaged.ensures
