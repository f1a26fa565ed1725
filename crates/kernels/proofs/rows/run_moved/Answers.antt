-- `kernels::rows::run_moved` meets its contract: each of its three ways writes the run. Assumes nothing.
use mathlib.Core.Path.{refl}
use native.Mathlib.Omega.{arith}
use Rattle.taps.proofs.Runs.{gathered_fill, gathered_less}
use Rattle.kernels.proofs.rows.run_moved.Goals as goal

pub returns-then-row-s-ge8 : goal.returns-then-row-s-ge8
returns-then-row-s-ge8 c = gathered_less _ _ (gathered_fill _ 8 _ (omega arith) c.moved.ensures) (omega arith) (λ k h. refl)

pub returns-else-row-s-ge8 : goal.returns-else-row-s-ge8
returns-else-row-s-ge8 c = gathered_fill _ _ _ (omega arith) c.first.ensures
