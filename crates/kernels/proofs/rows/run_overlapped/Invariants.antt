-- `kernels::rows::run_overlapped` meets its contract. The loop keeps up that the first i eights are written, or all samples. Assumes nothing.
use Prim.Native.Nat.{◌*◌, min}
use Rattle.taps.specs.Kernel.{Gathered, onward}
use Rattle.kernels.proofs.rows.run_overlapped.Given as goal

abbrev pub invariant-loop-i : goal.invariant-loop-i
invariant-loop-i l = Gathered l.initial.line l.line l.at (min (l.i * 8) l.n) (onward l.row l.s)
