-- `frac_of` meets its contract: the code is the definition. Assumes nothing.
use mathlib.Core.Path.{refl}
use native.Mathlib.Omega.{arith}
use Rattle.scaling.specs.Scale.{frac_of}
use Rattle.scaling.proofs.scale.frac_of.Goals as goal

pub returns : goal.returns
unfolding frac_of
returns c = (refl, omega arith)
