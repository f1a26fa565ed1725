-- `pair_passes::both::down_even` meets its contract: the rows of the kernel are the rectangle. Assumes nothing.
use mathlib.Core.Path.{◌∙◌}
use Prim.Native.Nat.{◌-◌}
use native.Mathlib.Omega.{arith}
use lib.ListN.{length}
use Rattle.base.proofs.Painted.{paint_same}
use Rattle.taps.proofs.Loops.{rows_paint}
use Rattle.planes.proofs.Fitting.{holds_row}
use Rattle.pair_passes.proofs.TwoRows.{even_down, low_even}
use Rattle.pair_passes.proofs.both.down_even.Goals as goal

pub rows_low-requires-clause-n_in_bounds : goal.rows_low-requires-clause-n_in_bounds
rows_low-requires-clause-n_in_bounds c =
    let a = c.args in
    let in-out = holds_row a.area.height a.stride a.area.width (length a.out.now) (a.area.height - 1) c.requires.out_value (omega (arith, a.area.high)) in
    omega (arith, a.area.narrow, c.requires.high, in-out)

pub rows_low-requires-clause-low : goal.rows_low-requires-clause-low
rows_low-requires-clause-low c = let a = c.args in low_even a.area.max a.room.now a.area.width a.area.height c.requires.held_room

pub returns : goal.returns
returns c =
    let a = c.args in
    rw c.of-phase.ensures at c.rows_low.ensures
    ∙ rows_paint _ _ _ _ _
    ∙ paint_same _ _ _ _ _ _ (λ i k ih kw. even_down a.area.max a.room.now a.start i k)
