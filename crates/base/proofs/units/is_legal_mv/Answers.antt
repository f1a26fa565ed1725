-- `base::is_legal_mv` meets its contract: both components are judged. Assumes nothing.
use Rattle.base.specs.Vector.{legal_mv}
use Rattle.base.proofs.units.is_legal_mv.Goals as goal

pub returns : goal.returns
unfolding legal_mv
returns c = rw (c.is_legal.ensures, c.is_legal-2.ensures)
