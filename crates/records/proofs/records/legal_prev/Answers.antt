-- `records::legal_prev` meets its contract: the block's own cell is a cell of the frame. Assumes nothing.
use native.Mathlib.Omega.{arith}
use Rattle.records.specs.Lent.{PrevRoom, legal_prev}
use Rattle.records.proofs.Grid.{own_in}
use Rattle.records.proofs.records.legal_prev.Goals as goal

pub legal_pair-requires : goal.legal_pair-requires
unfolding PrevRoom
legal_pair-requires c =
    let below = own_in c.args.site.geometry c.args.site.grid in
    let room = c.requires c.in-Some.pairs c.in-Some.is in
    omega (arith, c.own.ensures)

pub returns-in-None : goal.returns-in-None
unfolding legal_prev
returns-in-None c = rw c.in-None.is

pub returns-in-Some : goal.returns-in-Some
unfolding legal_prev
returns-in-Some c = rw (c.in-Some.is, ← c.own.ensures) c.legal_pair.ensures
