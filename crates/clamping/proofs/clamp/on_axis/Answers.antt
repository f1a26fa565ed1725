-- `on_axis` meets its contract: the code is the definition, once each number is read back from its bits. Assumes nothing.
use mir.Facts.{to_z-of_z}
use Rattle.clamping.specs.Clamp.{on_axis}
use Rattle.clamping.proofs.clamp.on_axis.Goals as goal

pub returns : goal.returns
unfolding on_axis
returns c =
    let et = to_z-of_z c.ranges.total in
    rw (rw et at c.between.ensures, et, to_z-of_z c.ranges.first)
