-- `pairs::pairs::rows_are_low` meets its contract. The loop keeps up that no sample so far is above v. Assumes nothing.
use Prim.Native.Nat.{◌+◌}
use Rattle.taps.specs.Kernel.{UpToRows}
use Rattle.pairs.proofs.pairs.rows_are_low.Given as goal

abbrev pub invariant-loop-i : goal.invariant-loop-i
invariant-loop-i l = UpToRows l.v l.l l.b l.line (l.w + l.more) l.i
