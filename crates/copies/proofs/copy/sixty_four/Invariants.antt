-- `copies::copy::sixty_four` meets its contract. The loop keeps up that the first i eights are written. Assumes nothing.
use Prim.Native.Nat.{◌*◌}
use Rattle.taps.specs.Kernel.{clipped}
use Rattle.taps.proofs.Loops.{Filling}
use Rattle.copies.proofs.copy.sixty_four.Given as goal

abbrev pub invariant-loop-i : goal.invariant-loop-i
invariant-loop-i l = Filling l.initial.out l.at (l.i * 8) (clipped l.max l.l l.b) l.out
