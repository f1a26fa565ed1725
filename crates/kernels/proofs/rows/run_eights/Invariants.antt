-- `kernels::rows::run_eights` meets its contract. The loop keeps up that i eights are written, the last of them past the end. Assumes nothing.
use Prim.Native.Nat.{◌*◌}
use Rattle.taps.specs.Kernel.{Gathered, alike}
use Rattle.kernels.proofs.rows.run_eights.Given as goal

abbrev pub invariant-loop-i : goal.invariant-loop-i
invariant-loop-i l = Gathered l.initial.line l.line l.at (l.i * 8) (alike l.v)
