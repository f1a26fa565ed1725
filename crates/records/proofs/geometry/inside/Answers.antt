-- `records::inside` meets its contract: the code is the definition, once each number is read back from its bits. Assumes nothing.
use native.Mathlib.Omega.{arith}
use Rattle.records.specs.Tables.{inside}
use Rattle.records.proofs.Fit.{Fit, back}
use Rattle.records.proofs.geometry.inside.Goals as goal

pub returns : goal.returns
unfolding inside
returns c =
    let f : Fit c.args.g = omega (arith, c.struct_told-1.given) in
    rw (back c.ranges.row, back f.rows, back f.start, back c.ranges.col, back f.end)
