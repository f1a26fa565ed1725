-- `records::legal_records` meets its contract: every place and the previous record are judged. Assumes nothing.
use Rattle.records.specs.Records.{legal_records}
use Rattle.records.specs.Lent.{legal_places, legal_prev}
use Rattle.records.proofs.Rooms.{room, prev_room}
use Rattle.records.proofs.records.legal_records.Goals as goal

pub legal_places-requires : goal.legal_places-requires
legal_places-requires c = room c.args.tables c.args.site.geometry c.requires

pub legal_prev-requires : goal.legal_prev-requires
legal_prev-requires c = prev_room c.args.tables c.args.site.geometry c.requires

pub returns : goal.returns
unfolding legal_records legal_places legal_prev
returns c = rw (c.legal_places.ensures, c.legal_prev.ensures)
