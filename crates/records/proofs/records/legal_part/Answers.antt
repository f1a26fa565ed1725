-- `records::legal_part` meets its contract: the code is the definition. Assumes nothing.
use mir.Facts.{to_z-of_z}
use Rattle.base.specs.Number.{between}
use Rattle.records.specs.Records.{legal_part}
use Rattle.records.proofs.records.legal_part.Goals as goal

pub returns : goal.returns
unfolding legal_part between
returns c = rw (to_z-of_z c.ranges.x)
