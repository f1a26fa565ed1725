-- `pair_passes::both::pair_block` meets its contract: the two passes, or the one that is needed. Assumes nothing.
use mathlib.Core.Bool.{true, false}
use mathlib.Core.Path.{◌≡◌, ◌∙◌}
use native.Mathlib.Omega.{arith}
use borrow.Author.Tests.{eqb-true}
use Rattle.base.proofs.Painted.{paint_same}
use Rattle.base.proofs.Tests.{and_both}
use Rattle.planes.specs.Seen.{seen}
use Rattle.planes.proofs.Fitting.{holds_long}
use Rattle.passes.proofs.Blocks.{whole-rows, room_whole, written_same}
use Rattle.pair_passes.proofs.both.pair_block.Goals as goal

pub pass_pairs-requires-clause-room_value : goal.pass_pairs-requires-clause-room_value
pass_pairs-requires-clause-room_value c = holds_long _ _ _ _ (omega (arith, c.args.area.narrow, c.requires.bounds))

pub returns-then-mean : goal.returns-then-mean
returns-then-mean c =
    let a = c.args in
    let both = and_both _ _ c.if-y.true in
    let q : a.y.step ≡ 16 = eqb-true _ _ both.1 in
    let m : a.mean ≡ true = c.if-mean.true in
    rw (q, m)
    (rw c.pass_pairs.ensures at c.rows_averaged.ensures
    ∙ written_same true _ _ _ _ _ _
    (room_whole a.area.max 3 (seen a.plane) a.x.start a.x.step a.y.start a.area.width a.area.height a.room.now (omega arith) (eqb-true _ _ both.0)
    a.area.narrow (omega (arith, a.area.narrow, c.requires.bounds))))

pub returns-then-y : goal.returns-then-y
returns-then-y c =
    let a = c.args in
    let both = and_both _ _ c.if-y.true in
    let q : a.y.step ≡ 16 = eqb-true _ _ both.1 in
    let m : a.mean ≡ false = c.if-mean.false in
    rw (q, m)
    (c.pass_pairs-then-y.ensures
    ∙ paint_same _ _ _ _ _ _
    (λ i k ih kw. whole-rows a.area.max 3 (seen a.plane) a.x.start a.x.step a.y.start i k (omega arith) (eqb-true _ _ both.0)))
