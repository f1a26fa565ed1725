-- `taps::plain::moved` meets its contract. The loops keep up that the first c samples are read, then that the first c are written. Assumes nothing.
use Prim.Native.Nat.{ℕ, ◌<◌}
use mathlib.Core.Path.{◌≡◌}
use lib.ListN.{length, get_or}
use Rattle.taps.specs.Kernel.{onward}
use Rattle.taps.proofs.Loops.{Filling}
use Rattle.taps.proofs.plain.moved.Given as goal

abbrev pub invariant-loop-c : goal.invariant-loop-c
invariant-loop-c g l = (length l.read ≡ g.row.N) × ((k : ℕ) → k < l.c → get_or l.read k 0 ≡ onward l.l l.s k)

abbrev pub invariant-loop-c-2 : goal.invariant-loop-c-2
invariant-loop-c-2 g l = Filling l.initial.out l.at l.c (onward l.l l.s) l.out
