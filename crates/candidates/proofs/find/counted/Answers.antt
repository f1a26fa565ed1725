-- `candidates::counted` meets its contract, arm by arm. Assumes nothing.
use native.Mathlib.Omega.{arith}
use Rattle.candidates.specs.Scan.{ModeAt}
use Rattle.candidates.specs.Search.{counted}
use Rattle.candidates.proofs.find.counted.Goals as goal

pub bounds-modes-i : goal.bounds-modes-i
unfolding ModeAt
bounds-modes-i c = c.requires c.in-Some.i c.in-Some.is

pub returns-in-None : goal.returns-in-None
unfolding counted
returns-in-None c = record { is = rw c.in-None.is; small = omega arith }

pub returns-in-Some : goal.returns-in-Some
unfolding counted
returns-in-Some c =
    let r = c.counter_of.ensures in
    record { is = rw c.in-Some.is r.is; small = r.small }
