-- `all_four` meets its contract: the vectors of a legal list are legal. Assumes nothing.
use mathlib.Core.Path.{◌∙◌}
use native.Mathlib.Omega.{arith}
use Rattle.selection.specs.Select.{all_four}
use Rattle.selection.proofs.Means.{legal_quad, mean_quad}
use Rattle.selection.proofs.Parts.{legal_at}
use Rattle.selection.proofs.select.all_four.Goals as goal

pub mean-requires : goal.mean-requires
mean-requires c =
    let at = legal_at c.args.m c.args.list c.requires.1 in (
      omega arith,
      ((omega arith, omega arith), legal_quad _ _ _ _ (at 0 (omega arith)) (at 1 (omega arith)) (at 2 (omega arith)) (at 3 (omega arith))),
    )

pub returns : goal.returns
unfolding all_four
returns c = c.mean.ensures ∙ mean_quad _ _ _ _
