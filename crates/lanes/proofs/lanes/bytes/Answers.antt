-- `lanes::lanes::bytes` meets its contract, by each of its ways. Assumes nothing.
use mathlib.Core.Path.{◌∙◌}
use Rattle.lanes.proofs.Low.{low_filled}
use Rattle.lanes.proofs.lanes.bytes.Goals as goal

pub returns-then-w-eq0 : goal.returns-then-w-eq0
returns-then-w-eq0 g c =
    let a = c.args in
    c.rows_low.ensures ∙ low_filled a.p a.l.now a.out.now g.row.APART a.b a.line a.w a.h a.at a.stride c.requires.low

pub returns-then-l-b : goal.returns-then-l-b
returns-then-l-b g c =
    let a = c.args in
    c.narrow.ensures ∙ low_filled a.p a.l.now a.out.now g.row.APART a.b a.line a.w a.h a.at a.stride c.requires.low
