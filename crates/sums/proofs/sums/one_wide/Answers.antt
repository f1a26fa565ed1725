-- `sums::sums::one_wide` meets its contract: the parts, put together. Assumes nothing.
use mathlib.Core.Path.{◌∙◌}
use Rattle.taps.specs.Kernel.{wide_one}
use Rattle.sums.proofs.sums.one_wide.Goals as goal

pub returns : goal.returns
unfolding wide_one
returns c =
    c.joined.ensures
    ∙ rw (
      c.wrapped.ensures,
      c.wrapped-2.ensures,
      c.low_sum.ensures.0,
      c.low_sum-2.ensures.0,
      c.high.ensures,
      c.high-2.ensures,
      c.high-3.ensures,
      c.high-4.ensures,
      c.high-5.ensures,
      c.high-6.ensures,
      c.high-7.ensures,
      c.high-8.ensures,
    )
