-- `candidates::sub_place` meets its contract, arm by arm. Assumes nothing.
use Rattle.candidates.specs.Offers.{offers}
use Rattle.candidates.specs.Scan.{SubsAt, sub_place_at}
use Rattle.records.proofs.Fit.{back}
use Rattle.candidates.proofs.find.sub_place.Goals as goal

pub sub_record-requires : goal.sub_record-requires
unfolding SubsAt
sub_record-requires c =
    record { room = c.requires.room c.in-Some.i c.in-Some.is; number = c.requires.number }

pub returns-in-None : goal.returns-in-None
unfolding sub_place_at offers
returns-in-None c = rw c.in-None.is

pub returns-in-Some : goal.returns-in-Some
unfolding sub_place_at
returns-in-Some c =
    rw c.in-Some.is (rw (back c.ranges.target) at c.sub_record.ensures)
