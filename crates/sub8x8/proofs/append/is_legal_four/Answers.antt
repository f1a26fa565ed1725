-- `is_legal_four` meets its contract: all four vectors are judged. Assumes nothing.
use Rattle.lists.specs.MvRef.{legal_four}
use Rattle.sub8x8.proofs.append.is_legal_four.Goals as goal

pub returns : goal.returns
unfolding legal_four
returns c = rw (c.is_legal_mv-a.ensures, c.is_legal_mv-b.ensures, c.is_legal_mv-c.ensures, c.is_legal_mv-d.ensures)
