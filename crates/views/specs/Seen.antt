-- What a view shows, in the terms of the calls below it: document 01, "a view that holds the lent samples beside their size". Assumes nothing.
use Rattle.planes.specs.Plane.{Lent, geom, lent}
use Rattle.planes.specs.declared.plane.PlaneGeom.{PlaneGeom}
use Rattle.views.specs.declared.ref_plane.RefPlane.{RefPlane}

-- the plane that a view lends: its numbers, and the whole of it
abbrev pub size_of : RefPlane → PlaneGeom
size_of p = geom p.width p.height p.stride p.upper_rows

abbrev pub lent_by : RefPlane → Lent
lent_by p = lent (size_of p) p.upper.now p.lower.now
