-- The reference that a value of `RefSource` lends, and its plane. Assumes nothing.
use Rattle.planes.specs.Plane.{Lent, lent}
use Rattle.judgement.specs.Whole.{Source, source, plane_geom}
use Rattle.judgement.specs.declared.judging.InterPredArgs.{InterPredArgs}
use Rattle.judgement.specs.declared.judging.FrameGeom.{FrameGeom}
use Rattle.judgement.specs.declared.judging.RefSource.{RefSource}

abbrev pub seen : RefSource → Source
seen s = source s.geom s.upper.now s.lower.now

abbrev pub plane_seen : InterPredArgs → FrameGeom → RefSource → Lent
plane_seen b f s = lent (plane_geom b f s.geom) s.upper.now s.lower.now
