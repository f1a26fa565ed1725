-- `base::within` meets its contract: the code is the definition. Assumes nothing.
use mathlib.Core.Path.{refl}
use Rattle.base.specs.Number.{within}
use Rattle.base.proofs.number.within.Goals as goal

pub returns : goal.returns
unfolding within
returns c = refl
