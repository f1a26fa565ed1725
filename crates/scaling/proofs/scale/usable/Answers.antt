-- `usable` meets its contract: the code is the definition over what it calls. Assumes nothing.
use mir.Facts.{to_z-of_z}
use Rattle.scaling.specs.Scale.{usable}
use Rattle.scaling.proofs.scale.usable.Goals as goal

pub returns : goal.returns
unfolding usable
returns c =
    let er = to_z-of_z c.ranges.reference in
    let ef = to_z-of_z c.ranges.frame in
    rw (rw er at c.sized.ensures, rw ef at c.sized-2.ensures, rw (er, ef) at c.allowed.ensures)
