-- `clamp_ref` meets its contract: both axes are clamped. Assumes nothing.
use mir.Syntax.{w32}
use Rattle.base.proofs.Bd.{bd, rd}
use Rattle.clamping.proofs.Bounds.{reads}
use Rattle.records.proofs.Grid.{grid}
use Rattle.lists.specs.MvRef.{clamp_ref}
use Rattle.lists.proofs.mv_ref.clamp_ref.Goals as goal

pub invariant_of-down : goal.invariant_of-down
invariant_of-down c =
    let a = grid c.args.g c.requires.grid in
    record {
      total_bound = reads (bd c.args.g.mi_rows a.rows_abs) tt;
      length_bound = reads (bd c.num_8x8_high.result c.num_8x8_high.ensures.1) tt;
      first_bound = reads (bd c.args.g.mi_row a.row_abs) tt;
    }

pub invariant_of-across : goal.invariant_of-across
invariant_of-across c =
    let a = grid c.args.g c.requires.grid in
    record {
      total_bound = reads (bd c.args.g.mi_cols a.cols_abs) tt;
      length_bound = reads (bd c.num_8x8_wide.result c.num_8x8_wide.ensures.1) tt;
      first_bound = reads (bd c.args.g.mi_col a.col_abs) tt;
    }

pub returns : goal.returns
unfolding clamp_ref
returns c =
    let a = grid c.args.g c.requires.grid in
    let border = rd w32 (bd c.args.border c.requires.border) tt in
    let down = rw (
      border,
      rd w32 (bd c.args.g.mi_rows a.rows_abs) tt,
      rd w32 (bd c.num_8x8_high.result c.num_8x8_high.ensures.1) tt,
      rd w32 (bd c.args.g.mi_row a.row_abs) tt,
    ) at c.clamp_part-row.ensures in
    let across = rw (
      border,
      rd w32 (bd c.args.g.mi_cols a.cols_abs) tt,
      rd w32 (bd c.num_8x8_wide.result c.num_8x8_wide.ensures.1) tt,
      rd w32 (bd c.args.g.mi_col a.col_abs) tt,
    ) at c.clamp_part-col.ensures in
    rw (← c.num_8x8_high.ensures.0, ← c.num_8x8_wide.ensures.0, down, across)
