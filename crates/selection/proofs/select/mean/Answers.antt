-- `mean` meets its contract: the sums of legal vectors fit. Assumes nothing.
use mathlib.Core.Path.{◌≡◌, refl}
use native.Mathlib.Omega.{arith}
use mir.Syntax.{w32}
use lib.ListN.{get_or}
use Rattle.base.specs.Vector.{zero_mv}
use Rattle.base.proofs.Bd.{◌⊕◌, fits, rd}
use Rattle.base.proofs.Legal.{row_bd, col_bd}
use Rattle.selection.specs.Select.{total, mean}
use Rattle.selection.proofs.Means.{rows_bd, cols_bd, total_more}
use Rattle.selection.proofs.select.mean.Goals as goal

pub loop-v-init : goal.loop-v-init
unfolding total
loop-v-init g c = (refl, refl)

pub overflow_add-row : goal.overflow_add-row
overflow_add-row g c =
    let i = c.loop-v.v-index in
    let sum = rows_bd c.args.of g.row.N c.requires.legal c.requires.few.1 i (omega arith) in
    let v = row_bd (get_or c.args.of i zero_mv) (c.requires.legal i c.loop-v-test.true) in
    rw (c.loop-v.invariant.0, rd w32 v tt) (fits (sum ⊕ v) tt)

pub overflow_add-col : goal.overflow_add-col
overflow_add-col g c =
    let i = c.loop-v.v-index in
    let sum = cols_bd c.args.of g.row.N c.requires.legal c.requires.few.1 i (omega arith) in
    let v = col_bd (get_or c.args.of i zero_mv) (c.requires.legal i c.loop-v-test.true) in
    rw (c.loop-v.invariant.1, rd w32 v tt) (fits (sum ⊕ v) tt)

pub loop-v-preserved : goal.loop-v-preserved
loop-v-preserved g c =
    let i = c.loop-v.v-index in
    let of = c.args.of in
    let rows = rows_bd of g.row.N c.requires.legal c.requires.few.1 i (omega arith) in
    let cols = cols_bd of g.row.N c.requires.legal c.requires.few.1 i (omega arith) in
    let row = row_bd (get_or of i zero_mv) (c.requires.legal i c.loop-v-test.true) in
    let col = col_bd (get_or of i zero_mv) (c.requires.legal i c.loop-v-test.true) in (
      rw (c.loop-v.invariant.0, rd w32 row tt, rd w32 (rows ⊕ row) tt) (total_more _ of i),
      rw (c.loop-v.invariant.1, rd w32 col tt, rd w32 (cols ⊕ col) tt) (total_more _ of i),
    )

pub rounded-requires-clause-small : goal.rounded-requires-clause-small
rounded-requires-clause-small g c =
    rw c.loop-v.invariant.0 (rows_bd c.args.of g.row.N c.requires.legal c.requires.few.1 c.loop-v.v-index (omega arith)).le

pub rounded-requires-2-clause-small : goal.rounded-requires-2-clause-small
rounded-requires-2-clause-small g c =
    rw c.loop-v.invariant.1 (cols_bd c.args.of g.row.N c.requires.legal c.requires.few.1 c.loop-v.v-index (omega arith)).le

pub returns : goal.returns
unfolding mean
returns g c =
    let end : c.loop-v.v-index ≡ g.row.N = omega arith in
    rw (c.rounded.ensures, c.rounded-2.ensures, c.loop-v.invariant.0, c.loop-v.invariant.1, end)
