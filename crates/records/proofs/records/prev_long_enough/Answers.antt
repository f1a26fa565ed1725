-- `records::prev_long_enough` meets its contract, arm by arm. Assumes nothing.
use Rattle.records.specs.Lent.{prev_long_enough}
use Rattle.records.proofs.records.prev_long_enough.Goals as goal

pub returns-in-None : goal.returns-in-None
unfolding prev_long_enough
returns-in-None c = rw c.in-None.is

pub returns-in-Some : goal.returns-in-Some
unfolding prev_long_enough
returns-in-Some c = rw c.in-Some.is
