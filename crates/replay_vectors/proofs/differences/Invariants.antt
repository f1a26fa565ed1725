-- `differences` counts no further than the cases: none is counted twice. Assumes nothing.
use Rattle.std.proofs.Common.{◌≤◌}
use Rattle.replay_vectors.proofs.differences.Given as goal

abbrev pub invariant-loop-i : goal.invariant-loop-i
invariant-loop-i g l = l.wrong ≤ l.i
