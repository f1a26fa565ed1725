-- `blocks::block::area` meets its contract: what the tests of a block say of its numbers. Assumes nothing.
use native.Mathlib.Omega.{arith}
use Rattle.blocks.proofs.Depths.{depth_top}
use Rattle.blocks.proofs.Facts.{size_says}
use Rattle.blocks.proofs.block.area.Goals as goal

pub invariant_of-result : goal.invariant_of-result
invariant_of-result c =
    let b = c.args.shape in
    let size = size_says b c.requires.size in
    record {
      wide = size.0.0;
      narrow = size.0.1;
      high = size.1.0;
      low = omega (arith, size);
      deep = rw c.top.ensures (depth_top b c.requires.depth);
    }
