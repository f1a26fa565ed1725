-- `copies::copy::copied` meets its contract. The loops keep up that the first c samples are read, then that the first c are written. Assumes nothing.
use Prim.Native.Nat.{ℕ, ◌<◌}
use mathlib.Core.Path.{◌≡◌}
use lib.ListN.{length, get_or}
use Rattle.taps.specs.Kernel.{clipped}
use Rattle.taps.proofs.Loops.{Filling}
use Rattle.copies.proofs.copy.copied.Given as goal

abbrev pub invariant-loop-c : goal.invariant-loop-c
invariant-loop-c g l = (length l.read ≡ g.row.N) × ((k : ℕ) → k < l.c → get_or l.read k 0 ≡ clipped l.max l.l l.s k)

abbrev pub invariant-loop-c-2 : goal.invariant-loop-c-2
invariant-loop-c-2 g l = Filling l.initial.out l.o l.c (clipped l.max l.l l.s) l.out
