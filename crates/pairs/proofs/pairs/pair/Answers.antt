-- `pairs::pairs::pair` meets its contract: the rounded sum is held. Assumes nothing.
use borrow.Author.Rules.{rules}
use Rattle.pairs.specs.Pair.{pair_of}
use Rattle.pairs.proofs.pairs.pair.Goals as goal

pub returns : goal.returns
unfolding pair_of
returns c = search rules
