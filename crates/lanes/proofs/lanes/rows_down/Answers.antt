-- `lanes::lanes::rows_down` meets its contract, by either way. Assumes nothing.
use mathlib.Core.Path.{◌≡◌}
use native.Mathlib.Omega.{arith}
use Rattle.lanes.proofs.Low.{low_down}
use Rattle.lanes.proofs.lanes.rows_down.Goals as goal

pub bytes-requires-clause-low : goal.bytes-requires-clause-low
bytes-requires-clause-low c =
    let e : c.args.max ≡ 255 = omega arith in low_down (rw e at c.requires.below_rows)
