-- `reach::reaching::readable` meets its contract: both ends of both axes. Assumes nothing.
use native.Mathlib.Omega.{arith}
use Rattle.blocks.proofs.Facts.{Near, starts_near}
use Rattle.reach.specs.Rectangle.{readable}
use Rattle.reach.proofs.reaching.readable.Goals as goal
use Rattle.reach.proofs.reaching.readable.Goals.{Start}

near : (s : Start) → Near s.args.from
near s = starts_near s.args.from s.requires.started

pub first_read-first_col-requires : goal.first_read-first_col-requires
first_read-first_col-requires c =
    (near c.before).left

pub last_read-last_col-requires : goal.last_read-last_col-requires
last_read-last_col-requires c =
    record {
      start_bound = (near c.before.before.before.before).left;
      step_bound = omega (arith, (near c.before.before.before.before).across, c.requires.sizes);
    }

pub first_read-first_row-requires : goal.first_read-first_row-requires
first_read-first_row-requires c =
    (near c.before.before.before.before.before.before).top

pub last_read-last_row-requires : goal.last_read-last_row-requires
last_read-last_row-requires c =
    record {
      start_bound = (near c.before.before.before.before.before.before.before.before.before).top;
      step_bound = omega (arith, (near c.before.before.before.before.before.before.before.before.before).down, c.requires.sizes);
    }

pub returns : goal.returns
unfolding readable
returns c =
    rw (c.last_read-last_row.ensures, c.first_read-first_row.ensures, c.last_read-last_col.ensures, c.first_read-first_col.ensures)
