-- `lanes::lanes::wide` meets its contract: the two sums are the definition's. Assumes nothing.
use mathlib.Core.Path.{◌∙◌}
use Prim.Native.Nat.{◌+◌, ◌*◌}
use native.Mathlib.Nat.{add-zero, mul-zero, mul-one}
use native.Mathlib.Omega.{arith}
use Rattle.taps.specs.Kernel.{apart}
use Rattle.lanes.proofs.HighLow.{wide_is}
use Rattle.lanes.proofs.lanes.wide.Goals as goal

pub returns : goal.returns
unfolding apart
returns g c =
    let a = c.args in
    c.one_wide.ensures
    ∙ rw (mul-zero, add-zero, mul-one) at
    (wide_is a.max a.p (apart a.l.now g.row.APART a.s) c.requires.max_bound (λ t t8. omega (arith, c.shared_slice_known-1.given (a.s + g.row.APART * t))))
