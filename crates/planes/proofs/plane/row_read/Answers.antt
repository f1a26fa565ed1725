-- `planes::plane::row_read` meets its contract: the row where it is accepted, nothing where it is refused. Assumes nothing.
use Rattle.std.proofs.Common.{sym, arith}
use Rattle.base.proofs.Casts.{read_back}
use Rattle.planes.specs.Plane.{lent, fits, row_of, row_at}
use Rattle.planes.proofs.Fitting.{read_accepted}
use Rattle.planes.proofs.plane.row_read.Goals as goal

pub plane_row-requires : goal.plane_row-requires
unfolding fits
plane_row-requires c =
    let g = c.args.geom in
    let ok = read_accepted (lent g c.args.upper.now c.args.lower.now) c.args.y (sym c.in_ok-readable.ensures) in
    rw (c.natural.ensures, c.natural-2.ensures, read_back g.width (omega arith), read_back g.height (omega arith))
    (record { lower_value = ok.1; y_lt_h = ok.0 })

pub returns : goal.returns
unfolding row_of row_at
returns c =
    let z = sym c.in_ok-readable.ensures in
    record {
      number = c.in_ok-readable.ensures;
      row = simp z (rw (c.natural.ensures, read_back c.args.geom.width (omega arith)) at c.plane_row.ensures.0);
      place = simp z c.plane_row.ensures.2;
    }
