-- `candidates::previous` meets its contract: the block's own cell is a cell of the frame. Assumes nothing.
use mathlib.Core.List.{append-nil}
use mathlib.Core.Path.{sym, ◌∙◌}
use Prim.Native.Nat.{◌+◌}
use native.Mathlib.Omega.{arith}
use Rattle.candidates.specs.Offers.{offers, run}
use Rattle.records.specs.Lent.{PairRoom, PrevRoom}
use Rattle.candidates.specs.Scan.{list_of, prev_of}
use Rattle.candidates.proofs.Folds.{offers_append}
use Rattle.records.proofs.Grid.{own_in}
use Rattle.candidates.proofs.scan.previous.Goals as goal
use Rattle.candidates.proofs.scan.previous.Goals.{After-own-i}

roomy : (c : After-own-i) → PairRoom (c.own-i.result + 1) c.in-Some.pairs
unfolding PrevRoom
roomy c =
    let below = own_in c.args.site.geometry c.args.site.grid in
    let room = c.requires c.in-Some.pairs c.in-Some.is in
    omega (arith, c.own-i.ensures)

pub one_list-h-requires : goal.one_list-h-requires
one_list-h-requires c = record { room = roomy c; list = omega arith }

pub one_list-requires : goal.one_list-requires
one_list-requires c = record { room = roomy c.before; list = omega arith }

pub returns-in-None : goal.returns-in-None
unfolding prev_of offers
returns-in-None c = rw c.in-None.is

pub returns-in-Some : goal.returns-in-Some
unfolding prev_of run
returns-in-Some c =
    let a = c.args in
    let pairs = c.in-Some.pairs in
    let lists = list_of pairs.frames.now pairs.mvs.now a.ask c.own-i.result in
    c.one_list.ensures
    ∙ rw (c.one_list-h.ensures, c.in-Some.is, ← c.own-i.ensures, append-nil (lists 1)) (sym (offers_append a.held (lists 0) (lists 1)))
