-- `passes::passes::pass_copied` meets its contract: rows of one band where nothing has to be held. Assumes nothing.
use mathlib.Core.Path.{◌∙◌}
use Rattle.base.proofs.Painted.{paint_same}
use Rattle.passes.proofs.Copied.{out-fits, stands_copy}
use Rattle.passes.proofs.passes.pass_copied.Goals as goal

pub rows_copied-requires-clause-rows_2 : goal.rows_copied-requires-clause-rows_2
rows_copied-requires-clause-rows_2 c = out-fits _ _ _ _ c.requires.out_value

pub returns-in-Some : goal.returns-in-Some
returns-in-Some c = c.rows_copied.ensures ∙ paint_same _ _ _ _ _ _ (stands_copy c.args.area.max c.in-Some.ensures.stands)
