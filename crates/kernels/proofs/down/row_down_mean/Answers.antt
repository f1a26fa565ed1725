-- `kernels::down::row_down_mean` meets its contract: the row by way of a line. Assumes nothing.
use mathlib.Core.Path.{◌∙◌}
use native.Mathlib.Omega.{arith}
use Rattle.kernels.proofs.Lines.{mean_filled}
use Rattle.kernels.proofs.down.row_down_mean.Goals as goal

pub returns : goal.returns
returns c =
    let a = c.args in
    rw c.row_down.ensures at c.row_averaged.ensures
    ∙ mean_filled a.out.now _ a.at a.w _ a.out.now (omega (arith, c.requires.w_bound))
