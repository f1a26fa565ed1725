-- `lowered` meets its contract, arm by arm. Assumes nothing.
use Rattle.base.proofs.Legal.{legal_row, legal_col}
use Rattle.lists.specs.MvRef.{lowered}
use Rattle.lists.proofs.mv_ref.lowered.Goals as goal

pub returns-then-allowed-is_near : goal.returns-then-allowed-is_near
unfolding lowered
returns-then-allowed-is_near c =
    rw (← c.is_near.ensures, ← c.is_near-2.ensures, c.if-allowed-is_near.true)

pub evened-requires : goal.evened-requires
evened-requires c = legal_row c.args.v c.requires

pub evened-requires-2 : goal.evened-requires-2
evened-requires-2 c = legal_col c.args.v c.requires

pub returns : goal.returns
unfolding lowered
returns c =
    rw (← c.is_near.ensures, ← c.is_near-2.ensures, c.if-allowed-is_near.false, c.evened.ensures, c.evened-2.ensures)
