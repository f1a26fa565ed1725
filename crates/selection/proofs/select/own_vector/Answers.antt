-- `own_vector` meets its contract: the code is the definition. Assumes nothing.
use mathlib.Core.Path.{refl}
use Rattle.selection.specs.Select.{own_vector}
use Rattle.selection.proofs.select.own_vector.Goals as goal

pub returns : goal.returns
unfolding own_vector
returns c = refl
