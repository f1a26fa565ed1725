-- The reference that a value of `Reference` lends. Assumes nothing.
use Rattle.planes.specs.Plane.{lent}
use Rattle.blocks.specs.Block.{Ref, ref}
use Rattle.blocks.specs.declared.reference.Reference.{Reference}

abbrev pub referred : Reference → Ref
referred r = ref (lent r.geom r.upper.now r.lower.now) r.from
