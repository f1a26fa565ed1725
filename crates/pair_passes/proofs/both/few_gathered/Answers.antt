-- `pair_passes::both::few_gathered` meets its contract: the line has the held samples. Assumes nothing.
use mathlib.Core.Path.{◌∙◌}
use Rattle.base.proofs.Painted.{fill_same}
use Rattle.pair_passes.proofs.TwoRows.{line_pair}
use Rattle.pair_passes.proofs.both.few_gathered.Goals as goal

pub returns : goal.returns
returns c =
    let a = c.args in
    rw c.of.ensures at c.row_stepped.ensures
    ∙ fill_same _ _ _ _ _
    (line_pair a.max a.row.now _ a.last a.start a.step a.w 0 c.gather.ensures.is)
