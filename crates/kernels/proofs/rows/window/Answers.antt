-- `kernels::rows::window` meets its contract: the unsigned sum is the definition's. Assumes nothing.
use mathlib.Core.Path.{◌∙◌}
use native.Mathlib.Nat.{add-zero}
use Rattle.taps.specs.Kernel.{apart}
use Rattle.taps.proofs.Filtered.{one_is}
use Rattle.kernels.proofs.rows.window.Goals as goal

pub returns : goal.returns
unfolding apart
returns c = let a = c.args in c.one.ensures ∙ rw add-zero at (one_is a.max a.p (apart a.l.now 1 a.s))
