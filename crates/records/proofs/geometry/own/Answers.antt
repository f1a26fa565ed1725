-- `records::own` meets its contract, which is `cell_at`'s at the block's own row and column. Assumes nothing.
use borrow.Author.Rules.{rules}
use Rattle.records.proofs.Fit.{Fit, back}
use Rattle.records.proofs.Grid.{own_placed}
use Rattle.records.proofs.geometry.own.Goals as goal

pub cell_at-requires : goal.cell_at-requires
cell_at-requires c =
    let f : Fit c.args.g = search rules in
    rw (back f.row, back f.col) (own_placed c.args.g c.requires)

pub returns : goal.returns
returns c =
    let f : Fit c.args.g = search rules in
    rw (back f.row, back f.col) at c.cell_at.ensures
