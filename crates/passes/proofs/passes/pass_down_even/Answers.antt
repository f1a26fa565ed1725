-- `passes::passes::pass_down_even` meets its contract: the rows of the kernel are the rectangle. Assumes nothing.
use mathlib.Core.Path.{ap, ◌∙◌}
use Prim.Native.Nat.{ℕ, ◌-◌, ◌*◌}
use native.Mathlib.Nat.{zero-add}
use native.Mathlib.Omega.{arith}
use lib.ListN.{length}
use Rattle.base.proofs.Painted.{paint_same}
use Rattle.taps.specs.Taps.{tap}
use Rattle.taps.proofs.Loops.{rows_paint}
use Rattle.taps.specs.Kernel.{ran, ran_rows}
use Rattle.passes.specs.Lifted.{down_even}
use Rattle.planes.proofs.Fitting.{holds_row}
use Rattle.passes.proofs.Blocks.{below_even}
use Rattle.passes.proofs.passes.pass_down_even.Goals as goal

pub rows_down-requires-clause-w_in_bounds : goal.rows_down-requires-clause-w_in_bounds
rows_down-requires-clause-w_in_bounds c =
    let a = c.args in
    let in-out = holds_row a.area.height a.stride a.area.width (length a.out.now) (a.area.height - 1) c.requires.out_value (omega (arith, a.area.high)) in
    omega (arith, c.requires.high, a.area.narrow, in-out)

pub rows_down-requires-clause-below_rows : goal.rows_down-requires-clause-below_rows
rows_down-requires-clause-below_rows c =
    let a = c.args in
    record { le = λ r rh. rw zero-add (below_even a.area.max a.room.now a.area.width r a.area.height c.requires.held_room rh) }

pub returns : goal.returns
unfolding down_even ran_rows
returns c =
    let a = c.args in
    let f = tap a.p.filter a.p.phase in
    c.rows_down.ensures ∙ rows_paint _ _ _ _ _
    ∙ paint_same _ _ _ _ _ _ (λ i k ih kw. ap (λ (b : ℕ). ran a.area.max f a.room.now 64 b k) (zero-add (i * 64)))
