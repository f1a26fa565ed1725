-- `pair_passes::both::whole_columns` meets its contract: rows of one band where nothing has to be held. Assumes nothing.
use mathlib.Core.Path.{◌≡◌, sym, ap, ◌∙◌}
use Prim.Native.Nat.{ℕ, ◌+◌, ◌-◌, ◌*◌, ◌<◌}
use native.Mathlib.Nat.{add-mul}
use native.Mathlib.Omega.{arith}
use lib.ListN.{length}
use Rattle.base.proofs.Painted.{paint_same}
use Rattle.taps.proofs.Loops.{rows_paint}
use Rattle.pairs.proofs.Two.{low_down}
use Rattle.planes.specs.Seen.{seen}
use Rattle.planes.proofs.Fitting.{holds_row}
use Rattle.pair_passes.proofs.TwoRows.{straight_is}
use Rattle.pair_passes.proofs.both.whole_columns.Goals as goal

one_less : (h stride : ℕ) → 0 < h → (h - 1) * stride + stride ≡ h * stride
one_less h stride some =
    let e : h ≡ h - 1 + 1 = omega arith in
    sym (ap (λ (k : ℕ). k * stride) e ∙ omega (arith, add-mul (h - 1) 1 stride))

pub rows_low-requires-clause-n_in_bounds : goal.rows_low-requires-clause-n_in_bounds
rows_low-requires-clause-n_in_bounds c =
    let a = c.args in
    let in-out = holds_row a.area.height a.stride a.area.width (length a.out.now) (a.area.height - 1) c.requires.out_value (omega (arith, a.area.high)) in
    let fit = c.in-Some.ensures.stands.inside.ends a.area.height (omega arith) in
    (omega (arith, fit, one_less a.area.height a.plane.stride a.area.high), omega (arith, in-out))

pub rows_low-requires-clause-low : goal.rows_low-requires-clause-low
rows_low-requires-clause-low c =
    let a = c.args in
    low_down a.area.max _ _ a.plane.stride a.area.width a.area.height (c.rows_are_low.ensures c.if-rows_are_low.true)

pub returns-then-rows_are_low : goal.returns-then-rows_are_low
returns-then-rows_are_low c =
    let a = c.args in
    let low = low_down a.area.max _ _ a.plane.stride a.area.width a.area.height (c.rows_are_low.ensures c.if-rows_are_low.true) in
    rw (c.requires.even.1, c.requires.even.2)
    (rw c.of.ensures at c.rows_low.ensures
    ∙ rows_paint _ _ _ _ _
    ∙ paint_same _ _ _ _ _ _
    (straight_is a.area.max (seen a.plane) _ _ _ a.x.start a.y.start a.area.width a.area.height c.requires.even.0 low c.in-Some.ensures.stands.is))
