-- `placed` meets its contract, which is `between`'s. Assumes nothing.
use mir.Facts.{to_z-of_z}
use Rattle.scaling.specs.Scale.{placed}
use Rattle.scaling.proofs.scale.placed.Goals as goal

pub returns : goal.returns
unfolding placed
returns c = rw (to_z-of_z c.ranges.x) at c.between.ensures
