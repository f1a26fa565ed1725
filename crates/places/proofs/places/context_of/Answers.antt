-- `places::context_of` meets its contract: the code's table is the definition's. Assumes nothing.
use mathlib.Core.Path.{refl}
use Rattle.places.specs.Places.{contexts}
use Rattle.places.proofs.places.context_of.Goals as goal

pub returns : goal.returns
unfolding contexts
returns c = refl
