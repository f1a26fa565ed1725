-- `clamp_mv` meets its contract: refused by the table, or both axes clamped. Assumes nothing.
use mathlib.Core.Path.{sym}
use mir.Syntax.{w32}
use Rattle.std.proofs.lemmas.Result.{err_from_is_err_and}
use Rattle.base.proofs.Bd.{bd, rd}
use Rattle.base.proofs.Legal.{legal_row, legal_col}
use Rattle.base.proofs.Numbered.{not_zero}
use Rattle.clamping.proofs.Bounds.{reads}
use Rattle.clamping.proofs.Tested.{axis_small}
use Rattle.vectors.specs.Clamp.{clamp_mv}
use Rattle.vectors.proofs.Accepted.{clamp_ok}
use Rattle.vectors.proofs.inter_mv.clamp_mv.Goals as goal

pub returns-in_err-clamp_allowed : goal.returns-in_err-clamp_allowed
unfolding clamp_mv
returns-in_err-clamp_allowed c =
    let p = err_from_is_err_and c.from_residual.result c.from_residual.ensures.1 in
    rw (p.1, p.2, ← c.in_err-clamp_allowed.ensures, not_zero c.in_err-clamp_allowed.field-0.0)

pub num_8x8_high-requires : goal.num_8x8_high-requires
num_8x8_high-requires c = rw c.from-size.ensures (clamp_ok c.args.grid c.args.mv c.args.plane (sym c.in_ok-clamp_allowed.ensures)).size

pub num_8x8_wide-requires : goal.num_8x8_wide-requires
num_8x8_wide-requires c = rw c.from-size.ensures (clamp_ok c.args.grid c.args.mv c.args.plane (sym c.in_ok-clamp_allowed.ensures)).size

pub invariant_of-down : goal.invariant_of-down
invariant_of-down c =
    let g = c.args.grid in
    let small = axis_small g.mi_rows g.mi_row (clamp_ok g c.args.mv c.args.plane (sym c.in_ok-clamp_allowed.ensures)).down in
    record {
      total_bound = reads (bd g.mi_rows small.0) tt;
      length_bound = reads (bd c.num_8x8_high.result c.num_8x8_high.ensures.1) tt;
      first_bound = reads (bd g.mi_row small.1) tt;
    }

pub invariant_of-across : goal.invariant_of-across
invariant_of-across c =
    let g = c.args.grid in
    let small = axis_small g.mi_cols g.mi_col (clamp_ok g c.args.mv c.args.plane (sym c.in_ok-clamp_allowed.ensures)).across in
    record {
      total_bound = reads (bd g.mi_cols small.0) tt;
      length_bound = reads (bd c.num_8x8_wide.result c.num_8x8_wide.ensures.1) tt;
      first_bound = reads (bd g.mi_col small.1) tt;
    }

pub clamp-row-requires : goal.clamp-row-requires
clamp-row-requires c =
    record {
      shifted = c.shift.ensures.1;
      legal = legal_row c.args.mv (clamp_ok c.args.grid c.args.mv c.args.plane (sym c.in_ok-clamp_allowed.ensures)).vector;
    }

pub clamp-col-requires : goal.clamp-col-requires
clamp-col-requires c =
    record {
      shifted = c.shift-2.ensures.1;
      legal = legal_col c.args.mv (clamp_ok c.args.grid c.args.mv c.args.plane (sym c.in_ok-clamp_allowed.ensures)).vector;
    }

pub returns : goal.returns
unfolding clamp_mv
returns c =
    let g = c.args.grid in
    let ok = clamp_ok g c.args.mv c.args.plane (sym c.in_ok-clamp_allowed.ensures) in
    let rows = axis_small g.mi_rows g.mi_row ok.down in
    let cols = axis_small g.mi_cols g.mi_col ok.across in
    let down = rw (
      rd w32 (bd g.mi_rows rows.0) tt,
      rd w32 (bd c.num_8x8_high.result c.num_8x8_high.ensures.1) tt,
      rd w32 (bd g.mi_row rows.1) tt,
    ) at c.clamp-row.ensures in
    let across = rw (
      rd w32 (bd g.mi_cols cols.0) tt,
      rd w32 (bd c.num_8x8_wide.result c.num_8x8_wide.ensures.1) tt,
      rd w32 (bd g.mi_col cols.1) tt,
    ) at c.clamp-col.ensures in
    rw (
      ← c.in_ok-clamp_allowed.ensures,
      down,
      across,
      c.num_8x8_high.ensures.0,
      c.num_8x8_wide.ensures.0,
      c.from-size.ensures,
      c.shift.ensures.0,
      c.shift-2.ensures.0,
    )
