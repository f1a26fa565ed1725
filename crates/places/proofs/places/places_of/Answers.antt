-- `places::places_of` meets its contract: the code's table is the definition's. Assumes nothing.
use mathlib.Core.Path.{refl}
use Rattle.places.specs.Places.{places}
use Rattle.places.proofs.places.places_of.Goals as goal

pub returns : goal.returns
unfolding places
returns c = refl
