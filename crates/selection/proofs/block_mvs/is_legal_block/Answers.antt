-- `is_legal_block` meets its contract: both lists are judged. Assumes nothing.
use Rattle.selection.specs.BlockMvs.{legal_block}
use Rattle.selection.proofs.block_mvs.is_legal_block.Goals as goal

pub returns : goal.returns
unfolding legal_block
returns c = rw (c.is_legal_list.ensures, c.is_legal_list-2.ensures)
