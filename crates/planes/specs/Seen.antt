-- The plane that a value of `Bands` holds. Assumes nothing.
use Rattle.planes.specs.Plane.{Lent, view}
use Rattle.planes.specs.declared.bands.Bands.{Bands}

abbrev pub seen : Bands → Lent
seen p = view p.width p.height p.stride p.upper_rows p.upper.now p.lower.now
