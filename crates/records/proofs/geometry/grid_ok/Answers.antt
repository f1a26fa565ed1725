-- `records::grid_ok` meets its contract: the code is the definition, once each field is read back from its bits. Assumes nothing.
use native.Mathlib.Omega.{arith}
use Rattle.records.specs.Tables.{grid_ok}
use Rattle.records.proofs.Fit.{Fit, back}
use Rattle.records.proofs.geometry.grid_ok.Goals as goal

pub returns : goal.returns
unfolding grid_ok
returns c =
    let f : Fit c.args.g = omega (arith, c.struct_told-1.given) in
    rw (c.between-2.ensures, c.between.ensures, back f.rows, back f.cols, back f.row, back f.start, back f.col, back f.end)
