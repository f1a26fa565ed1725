-- `base::clip3` meets its contract: each arm rewrites with the tests that led to it. Assumes nothing.
use mir.Facts.{to_z-of_z}
use Rattle.base.specs.Number.{clip3}
use Rattle.base.proofs.number.clip3.Goals as goal

pub returns-then-x-low : goal.returns-then-x-low
unfolding clip3
returns-then-x-low c =
    let ex = to_z-of_z c.ranges.x in
    let el = to_z-of_z c.ranges.low in
    rw (el, rw (ex, el) at c.if-x-low.true)

pub returns-then-x-high : goal.returns-then-x-high
unfolding clip3
returns-then-x-high c =
    let ex = to_z-of_z c.ranges.x in
    let el = to_z-of_z c.ranges.low in
    let eh = to_z-of_z c.ranges.high in
    rw (eh, rw (ex, el) at c.if-x-low.false, rw (eh, ex) at c.if-x-high.true)

pub returns-else-x-high : goal.returns-else-x-high
unfolding clip3
returns-else-x-high c =
    let ex = to_z-of_z c.ranges.x in
    let el = to_z-of_z c.ranges.low in
    let eh = to_z-of_z c.ranges.high in
    rw (ex, rw (ex, el) at c.if-x-low.false, rw (eh, ex) at c.if-x-high.false)
