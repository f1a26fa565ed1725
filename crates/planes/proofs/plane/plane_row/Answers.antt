-- `planes::plane::plane_row` meets its contract: the row is in one band or the other. Assumes nothing.
use native.Mathlib.Omega.{arith}
use borrow.Author.Tests.{lt-ltb, le-ltb}
use Rattle.planes.specs.Plane.{view, row_of, row_at}
use Rattle.planes.proofs.Fitting.{fits_says}
use Rattle.planes.proofs.plane.plane_row.Goals as goal

pub band_row-requires : goal.band_row-requires
band_row-requires c =
    let a = c.args in
    let f = fits_says (view a.w a.h a.stride a.k a.upper.now a.lower.now) c.requires.lower_value in
    record { held = f.upper; inside = omega arith }

pub returns-then-y-k : goal.returns-then-y-k
unfolding row_of row_at
returns-then-y-k c =
    let e = c.band_row.ensures in
    let t = lt-ltb _ _ c.if-y-k.true in
    (simp t e.0, e.1, simp t e.2)

pub band_row-requires-2 : goal.band_row-requires-2
band_row-requires-2 c =
    let a = c.args in
    let f = fits_says (view a.w a.h a.stride a.k a.upper.now a.lower.now) c.requires.lower_value in
    record { held = f.lower; inside = omega (arith, c.requires.y_lt_h) }

pub returns : goal.returns
unfolding row_of row_at
returns c =
    let e = c.band_row-2.ensures in
    let t = le-ltb _ _ c.if-y-k.false in
    (simp t e.0, e.1, simp t e.2)
