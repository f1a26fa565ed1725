-- `candidates::sub_number` meets its contract: the code's table is the definition's, and its entries are below four. Assumes nothing.
use mathlib.Core.Path.{◌∙◌, ap}
use Prim.Native.Nat.{◌≤◌}
use native.Mathlib.Omega.{arith}
use lib.IntN.{pos, negsuc}
use lib.Signed.{le_z}
use Rattle.base.specs.Number.{between}
use Rattle.base.proofs.Tests.{and_right}
use Rattle.places.specs.Places.{columns}
use Rattle.candidates.specs.Offers.{sub_number}
use Rattle.candidates.specs.Scan.{column}
use Rattle.records.proofs.Fit.{back, natural_of}
use Rattle.records.proofs.Grid.{le-to_n}
use Rattle.candidates.proofs.Numbers.{column_small, entry_small}
use Rattle.candidates.proofs.sub_block.sub_number.Goals as goal
use Rattle.candidates.proofs.sub_block.sub_number.Goals.{After-natural-b}

block-small : (c : After-natural-b) → c.natural-b.result ≤ 3
unfolding between
block-small c =
    let block = c.args.block in
    omega (arith, natural_of c.ranges.block c.natural-b.ensures, le-to_n block (pos 3) (and_right (le_z (negsuc 0) block) (le_z block (pos 3)) c.requires))

pub returns-then-block-lt0 : goal.returns-then-block-lt0
unfolding sub_number
returns-then-block-lt0 c = record { is = rw (rw (back c.ranges.block) at c.if-block-lt0.true); small = omega arith }

pub offset_bounds-b : goal.offset_bounds-b
offset_bounds-b c = record { fits = omega (arith, block-small c.before.before) }

pub bounds-b : goal.bounds-b
bounds-b c = omega (arith, block-small c.before.before)

pub bounds-c : goal.bounds-c
bounds-c c = rw c.column_of-c.ensures (column_small _)

pub returns : goal.returns
unfolding sub_number columns column
returns c =
    let minus = rw (back c.ranges.block) at c.if-block-lt0.false in
    let column_is = c.column_of-c.ensures ∙ ap column (back c.ranges.offset) in
    let number = natural_of c.ranges.block c.natural-b.ensures in
    let read = c.from.ensures in
    record { is = read ∙ rw (minus, ← number, ← column_is); small = rw read (entry_small c.natural-b.result c.column_of-c.result) }
