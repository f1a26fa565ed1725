-- `lanes::lanes::top_of` meets its contract. The loop keeps up that no sample so far is above the top. Assumes nothing.
use Rattle.taps.specs.Kernel.{UpTo}
use Rattle.lanes.proofs.lanes.top_of.Given as goal

abbrev pub invariant-loop-k : goal.invariant-loop-k
invariant-loop-k g l = UpTo l.top l.l l.s l.k
