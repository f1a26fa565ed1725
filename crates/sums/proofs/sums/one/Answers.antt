-- `sums::sums::one` meets its contract: the parts, put together. Assumes nothing.
use borrow.Author.Rules.{rules}
use Rattle.taps.specs.Kernel.{raised_one}
use Rattle.sums.proofs.sums.one.Goals as goal

pub returns : goal.returns
unfolding raised_one
returns c = search rules
