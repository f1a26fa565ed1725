-- `records::long_enough` meets its contract: with at most 8192 rows and columns no product wraps. Assumes nothing.
use mathlib.Core.Path.{◌≡◌}
use Prim.Native.Nat.{◌*◌, ◌≤◌}
use native.Mathlib.Omega.{arith}
use borrow.Author.Rules.{rules}
use Rattle.records.specs.Tables.{long_enough}
use Rattle.records.specs.Lent.{cells, prev_long_enough}
use Rattle.records.proofs.Fit.{Fit, natural_of}
use Rattle.records.proofs.Grid.{grid, cell_small}
use Rattle.records.proofs.records.long_enough.Goals as goal
use Rattle.records.proofs.records.long_enough.Goals.{After-natural-2}

cells_is : (c : After-natural-2) → c.natural.result * c.natural-2.result ≡ cells c.args.g
cells_is c = let f : Fit c.args.g = search rules in rw (natural_of f.rows c.natural.ensures, natural_of f.cols c.natural-2.ensures)

few : (c : After-natural-2) → c.natural.result * c.natural-2.result ≤ 67108864
few c = let ok = grid c.args.g c.requires in rw (cells_is c) (cell_small ok.rows ok.cols)

pub overflow_mul-n : goal.overflow_mul-n
overflow_mul-n c = record { fits = omega (arith, few c) }

pub overflow_mul-result : goal.overflow_mul-result
overflow_mul-result c = record { fits = omega (arith, few c) }

pub overflow_mul-result-2 : goal.overflow_mul-result-2
overflow_mul-result-2 c = record { fits = omega (arith, few c) }

pub overflow_mul-result-3 : goal.overflow_mul-result-3
overflow_mul-result-3 c = record { fits = omega (arith, few c) }

pub prev_long_enough-requires : goal.prev_long_enough-requires
prev_long_enough-requires c = few c.before

pub returns : goal.returns
unfolding long_enough prev_long_enough
returns c = rw (c.prev_long_enough.ensures, cells_is c.before.before)
