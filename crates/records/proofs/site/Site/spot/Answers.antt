-- `Site::spot` meets its contract: a step from the block's own row and column. Assumes nothing.
use mathlib.Core.Path.{◌≡◌, ◌∙◌}
use Rattle.places.specs.Places.{offset}
use Rattle.records.specs.Tables.{spot}
use Rattle.records.proofs.Grid.{grid}
use Rattle.places.proofs.Steps.{step_small, moves, moved}
use Rattle.records.proofs.site.Site.spot.Goals as goal

pub overflow_add-row : goal.overflow_add-row
unfolding offset
overflow_add-row c =
    let row_step : c.step_of.result ≡ offset c.args.self.geometry.mi_size c.args.k 0 = rw c.args.self.places at c.step_of.ensures in
    let a = c.args in
    moves a.self.geometry.mi_row c.step_of.result (offset a.self.geometry.mi_size a.k 0) (grid a.self.geometry c.args.self.grid).row_abs
    (step_small a.self.geometry.mi_size a.k 0) row_step

pub overflow_add-col : goal.overflow_add-col
unfolding offset
overflow_add-col c =
    let col_step : c.step_of-2.result ≡ offset c.args.self.geometry.mi_size c.args.k 1 = rw c.args.self.places at c.step_of-2.ensures in
    let a = c.args in
    moves a.self.geometry.mi_col c.step_of-2.result (offset a.self.geometry.mi_size a.k 1) (grid a.self.geometry c.args.self.grid).col_abs
    (step_small a.self.geometry.mi_size a.k 1) col_step

pub returns : goal.returns
unfolding spot offset
returns c =
    let row_step : c.step_of.result ≡ offset c.args.self.geometry.mi_size c.args.k 0 = rw c.args.self.places at c.step_of.ensures in
    let col_step : c.step_of-2.result ≡ offset c.args.self.geometry.mi_size c.args.k 1 = rw c.args.self.places at c.step_of-2.ensures in
    let g = c.args.self.geometry in
    let size = g.mi_size in
    let k = c.args.k in
    let ok = grid g c.args.self.grid in
    let row = moved g.mi_row c.step_of.result (offset size k 0) ok.row_abs (step_small size k 0) row_step in
    let col = moved g.mi_col c.step_of-2.result (offset size k 1) ok.col_abs (step_small size k 1) col_step in
    c.spot_at.ensures ∙ rw (row, col)
