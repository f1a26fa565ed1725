-- `knobspindle_row_read` meets its contract: the row read's answer, and past it the place of the row. Assumes nothing.
use mathlib.Core.Path.{sym}
use native.Mathlib.Omega.{arith}
use Rattle.base.proofs.Numbered.{not_zero}
use Rattle.planes.specs.Plane.{lent}
use Rattle.planes.proofs.Fitting.{read_accepted, fits_says}
use Rattle.host.specs.InC.{row_place}
use Rattle.host.proofs.samples_c.knobspindle_row_read.Goals as goal

pub row_spot-requires : goal.row_spot-requires
row_spot-requires c =
    let a = c.args in
    let ok = read_accepted (lent a.geom a.upper.now a.lower.now) a.y (sym c.in-Ok.ensures.number) in
    (omega (arith, ok), (fits_says (lent a.geom a.upper.now a.lower.now) ok.1).near)

pub returns-in-Ok : goal.returns-in-Ok
unfolding row_place
returns-in-Ok c = rw (← c.in-Ok.ensures.number) c.row_spot.ensures

pub returns-in-Err : goal.returns-in-Err
unfolding row_place
returns-in-Err c = rw (c.number.ensures, ← c.in-Err.ensures.number, not_zero c.in-Err.refusal)
