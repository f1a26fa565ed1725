-- `lanes::lanes::rows_across` meets its contract, by either way. Assumes nothing.
use Rattle.lanes.proofs.Low.{low_across}
use Rattle.lanes.proofs.lanes.rows_across.Goals as goal

pub bytes-requires-clause-low : goal.bytes-requires-clause-low
bytes-requires-clause-low c = low_across (c.rows_are_low.ensures c.if-rows_are_low.true)
