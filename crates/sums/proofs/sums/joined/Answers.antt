-- `sums::sums::joined` meets its contract: the parts, put together. Assumes nothing.
use mathlib.Core.Path.{◌∙◌}
use Rattle.taps.specs.Kernel.{joined_sums}
use Rattle.sums.proofs.sums.joined.Goals as goal

pub returns : goal.returns
unfolding joined_sums
returns c =
    c.lesser.ensures
    ∙ rw (
      c.saturating_sub.ensures,
      c.saturating_add-sum.ensures,
      c.saturating_add.ensures,
      c.saturating_sub-u.ensures,
      c.from.ensures,
      c.from-2.ensures,
      c.from-3.ensures,
    )
