-- `sized` meets its contract, which is `between`'s. Assumes nothing.
use mir.Facts.{to_z-of_z}
use Rattle.scaling.specs.Scale.{sized}
use Rattle.scaling.proofs.scale.sized.Goals as goal

pub returns : goal.returns
unfolding sized
returns c = rw (to_z-of_z c.ranges.n) at c.between.ensures
