-- `lanes::lanes::top_of_run` meets its contract. The loop keeps up that neither v nor a sample so far is above the top. Assumes nothing.
use Prim.Native.Nat.{◌-◌, ◌≤◌, min}
use Rattle.taps.specs.Kernel.{UpTo}
use Rattle.lanes.proofs.lanes.top_of_run.Given as goal

abbrev pub invariant-loop-c : goal.invariant-loop-c
invariant-loop-c g l = (l.v ≤ l.top) × UpTo l.top l.l l.b (min l.c l.m)

abbrev pub decreases-loop-c : goal.decreases-loop-c
decreases-loop-c g l = l.m - l.c
