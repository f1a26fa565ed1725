-- `pairs::pairs::pair_low` meets its contract: the sum modulo 65,536 is rounded. Assumes nothing.
use borrow.Author.Rules.{rules}
use Rattle.pairs.specs.Pair.{low_pair}
use Rattle.pairs.proofs.pairs.pair_low.Goals as goal

pub returns : goal.returns
unfolding low_pair
returns c = search rules
