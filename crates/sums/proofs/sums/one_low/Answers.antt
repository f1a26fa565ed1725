-- `sums::sums::one_low` meets its contract: the parts, put together. Assumes nothing.
use borrow.Author.Rules.{rules}
use Rattle.taps.specs.Kernel.{low_one}
use Rattle.sums.proofs.sums.one_low.Goals as goal

pub returns : goal.returns
unfolding low_one
returns c = search rules
