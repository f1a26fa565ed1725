-- `base::between` meets its contract: the code is the definition, once each number is read back from its bits. Assumes nothing.
use mir.Facts.{to_z-of_z}
use Rattle.base.specs.Number.{between}
use Rattle.base.proofs.number.between.Goals as goal

pub returns : goal.returns
unfolding between
returns c = let f = c.ranges in rw (to_z-of_z f.low, to_z-of_z f.x, to_z-of_z f.high)
