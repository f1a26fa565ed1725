-- `pairs::pairs::rows_low` meets its contract, by each of its ways. Assumes nothing.
use mathlib.Core.Path.{◌≡◌, ◌∙◌}
use native.Mathlib.Omega.{arith}
use Rattle.pairs.proofs.Two.{low_rows}
use Rattle.pairs.proofs.pairs.rows_low.Goals as goal

pub returns-in-16-to-max : goal.returns-in-16-to-max
returns-in-16-to-max c =
    let a = c.args in
    c.rows_sixteens.ensures
    ∙ low_rows a.max a.p.sixteenths a.l.now a.out.now a.n a.b a.line a.w a.h a.at a.stride a.p.small c.requires.max_bound c.requires.low

pub returns-in-8 : goal.returns-in-8
returns-in-8 c =
    let a = c.args in
    let e : a.w ≡ 8 = omega arith in
    rw e
    (c.rows_narrow.ensures
    ∙ low_rows a.max a.p.sixteenths a.l.now a.out.now a.n a.b a.line 8 a.h a.at a.stride a.p.small c.requires.max_bound (rw e at c.requires.low))

pub returns-in-4 : goal.returns-in-4
returns-in-4 c =
    let a = c.args in
    let e : a.w ≡ 4 = omega arith in
    rw e
    (c.rows_narrow-in-4.ensures
    ∙ low_rows a.max a.p.sixteenths a.l.now a.out.now a.n a.b a.line 4 a.h a.at a.stride a.p.small c.requires.max_bound (rw e at c.requires.low))
