-- `records::legal_pair` meets its contract: both frames and both vectors are judged. Assumes nothing.
use Rattle.records.specs.Records.{legal_pair}
use Rattle.records.proofs.records.legal_pair.Goals as goal

pub returns : goal.returns
unfolding legal_pair
returns c = rw (c.legal_frame.ensures, c.legal_frame-2.ensures, c.legal_parts.ensures)
