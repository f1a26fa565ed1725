-- `Site::spot_at` meets its contract, arm by arm. Assumes nothing.
use mathlib.Core.Path.{sym, ◌∙◌}
use Rattle.records.specs.Tables.{spot_at}
use Rattle.records.proofs.Fit.{back}
use Rattle.records.proofs.Grid.{placed}
use Rattle.records.proofs.site.Site.spot_at.Goals as goal

pub cell_at-requires : goal.cell_at-requires
cell_at-requires c =
    let asked = rw (back c.ranges.row, back c.ranges.col) at c.inside.ensures in
    rw (back c.ranges.row, back c.ranges.col)
    (placed c.args.self.geometry c.args.row c.args.col c.args.self.grid (sym asked ∙ c.if-inside.true))

pub returns-then-inside : goal.returns-then-inside
unfolding spot_at
returns-then-inside c =
    let asked = rw (back c.ranges.row, back c.ranges.col) at c.inside.ensures in
    rw (sym asked ∙ c.if-inside.true, c.cell_at.ensures, back c.ranges.row, back c.ranges.col)

pub returns-else-inside : goal.returns-else-inside
unfolding spot_at
returns-else-inside c =
    let asked = rw (back c.ranges.row, back c.ranges.col) at c.inside.ensures in
    rw (sym asked ∙ c.if-inside.false)
