-- `is_legal_list` meets its contract: the four vectors of a list are judged. Assumes nothing.
use Rattle.selection.specs.BlockMvs.{legal_list}
use Rattle.selection.proofs.block_mvs.is_legal_list.Goals as goal

pub returns : goal.returns
unfolding legal_list
returns c = rw (c.is_legal_mv-a.ensures, c.is_legal_mv-b.ensures, c.is_legal_mv-c.ensures, c.is_legal_mv-d.ensures)
