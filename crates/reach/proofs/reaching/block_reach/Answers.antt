-- `reach::reaching::block_reach` meets its contract: refused by the table, or the rectangle. Assumes nothing.
use Rattle.std.proofs.Common.{sym, arith}
use mir.Facts.{to_z-of_z}
use Rattle.std.proofs.lemmas.Result.{err_from_is_err_and}
use Rattle.reach.specs.Rectangle.{block_reach}
use Rattle.reach.proofs.Accepted.{accepted, refused}
use Rattle.reach.proofs.reaching.block_reach.Goals as goal
use Rattle.reach.proofs.reaching.block_reach.Goals.{After-reachable}

pub returns-in_err-reachable : goal.returns-in_err-reachable
returns-in_err-reachable c =
    let x = c.args in
    let p = err_from_is_err_and c.from_residual.result c.from_residual.ensures.1 in
    rw (p.1, p.2)
    (refused x.w x.h x.width x.height x.from _ (rw (to_z-of_z c.ranges.width, to_z-of_z c.ranges.height) at c.in_err-reachable.ensures))

pub readable-requires : goal.readable-requires
readable-requires c =
    let x = c.args in
    let e = rw (to_z-of_z c.ranges.width, to_z-of_z c.ranges.height) at c.in_ok-reachable.ensures in
    let n1 = rw (to_z-of_z c.ranges.width) at c.natural.ensures in
    let n2 = rw (to_z-of_z c.ranges.height) at c.natural-2.ensures in
    let ok = accepted x.w x.h x.width x.height x.from (sym e) in
    rw (n1, n2) (record { sizes = omega (arith, ok.w, ok.h, ok.width, ok.height); started = ok.from })

pub returns : goal.returns
unfolding block_reach
returns c =
    let n1 = rw (to_z-of_z c.ranges.width) at c.natural.ensures in
    let n2 = rw (to_z-of_z c.ranges.height) at c.natural-2.ensures in
    rw (c.readable.ensures, sym (rw (to_z-of_z c.ranges.width, to_z-of_z c.ranges.height) at c.in_ok-reachable.ensures), n1, n2)
