-- `records::legal_record` meets its contract: mode, frames, vectors and all sub-vectors are judged. Assumes nothing.
use Rattle.records.specs.Records.{legal_record}
use Rattle.records.proofs.records.legal_record.Goals as goal

pub returns : goal.returns
unfolding legal_record
returns c = rw (c.legal_pair.ensures, c.legal_parts.ensures, c.pairs.ensures)
