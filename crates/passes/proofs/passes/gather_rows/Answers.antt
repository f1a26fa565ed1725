-- `passes::passes::gather_rows` meets its contract. The loop keeps up that the first j lines are gathered. Assumes nothing.
use mathlib.Core.Path.{◌∙◌}
use Rattle.passes.proofs.Edges.{lines_turn}
use Rattle.passes.proofs.passes.gather_rows.Goals as goal

pub loop-j-preserved : goal.loop-j-preserved
loop-j-preserved c =
    let more = rw c.lifted_row-row.ensures.0 at c.gather.ensures in
    (lines_turn c.args.plane.wide c.requires.4 c.loop-j.invariant.0 more, more.len ∙ c.loop-j.invariant.1)
