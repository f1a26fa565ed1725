-- `scale_of` meets its contract: an allowed reference is at most twice the frame. Assumes nothing.
use mathlib.Core.Path.{refl}
use native.Mathlib.Nat.{div-le_of_le-mul}
use native.Mathlib.Omega.{arith}
use Rattle.scaling.specs.Scale.{scale_of}
use Rattle.scaling.proofs.scale.scale_of.Goals as goal

pub returns : goal.returns
unfolding scale_of
returns c = (refl, div-le_of_le-mul c.args.frame (omega arith))
