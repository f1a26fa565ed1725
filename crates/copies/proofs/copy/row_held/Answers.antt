-- `copies::copy::row_held` meets its contract: the three runs are the held columns. Assumes nothing.
use mathlib.Core.Path.{◌∙◌}
use Rattle.taps.proofs.Runs.{cut}
use Rattle.copies.proofs.Copies.{runs_still}
use Rattle.copies.proofs.copy.row_held.Goals as goal

pub returns : goal.returns
returns c =
    let a = c.args in
    let ends = cut _ _ _ _ _ _ c.left_of-before.ensures c.held-d.ensures c.min-inside.ensures in
    c.row_runs.ensures ∙ runs_still ends a.max a.row.now a.out.now a.at
