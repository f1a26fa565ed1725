-- `pairs::pairs::sum_of` meets its contract: two products. Assumes nothing.
use native.Mathlib.Omega.{arith}
use Rattle.pairs.specs.Pair.{pair_sum}
use Rattle.pairs.proofs.pairs.sum_of.Goals as goal

pub returns : goal.returns
unfolding pair_sum
returns c =
    (rw (c.product.ensures.0, c.product-2.ensures.0), omega (arith, c.product.ensures.1, c.product-2.ensures.1))
