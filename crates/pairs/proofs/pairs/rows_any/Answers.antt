-- `pairs::pairs::rows_any` meets its contract, by either way. Assumes nothing.
use Rattle.pairs.proofs.Two.{low_across}
use Rattle.pairs.proofs.pairs.rows_any.Goals as goal

pub rows_low-requires-clause-low : goal.rows_low-requires-clause-low
rows_low-requires-clause-low c =
    let a = c.args in low_across a.max a.l.now a.b a.line a.w a.h (c.rows_are_low.ensures c.if-rows_are_low.true)
