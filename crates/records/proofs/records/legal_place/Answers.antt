-- `records::legal_place` meets its contract: the cell of a place is a cell of the frame. Assumes nothing.
use mathlib.Core.Path.{sym}
use native.Mathlib.Omega.{arith}
use Rattle.records.specs.Records.{legal_spot}
use Rattle.records.proofs.Grid.{spot_in}
use Rattle.records.proofs.records.legal_place.Goals as goal

pub legal_record-requires : goal.legal_record-requires
legal_record-requires c =
    let below = spot_in c.args.site.geometry c.args.k c.in-Some.i c.args.site.grid (sym c.in-Some.ensures) in
    omega arith

pub returns-in-None : goal.returns-in-None
unfolding legal_spot
returns-in-None c = rw (← c.in-None.ensures)

pub returns-in-Some : goal.returns-in-Some
unfolding legal_spot
returns-in-Some c = rw (← c.in-Some.ensures) c.legal_record.ensures
