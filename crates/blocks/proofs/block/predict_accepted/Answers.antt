-- `blocks::block::predict_accepted` meets its contract: list 0, and list 1 on top of it where it is averaged. Assumes nothing.
use mathlib.Core.Path.{ap, ◌∙◌}
use native.Mathlib.Omega.{arith}
use lib.ListN.{length}
use Rattle.base.proofs.Painted.{length-paint}
use Rattle.planes.specs.Plane.{lent}
use Rattle.blocks.specs.Block.{ref, Call, call}
use Rattle.blocks.proofs.Facts.{painted_one, painted_two}
use Rattle.blocks.proofs.block.predict_accepted.Goals as goal

pub predict_one-requires : goal.predict_one-requires
predict_one-requires c =
    let t = c.requires in
    record { legal = t.one; out_value = (t.out, t.room) }

pub predict_two-requires : goal.predict_two-requires
predict_two-requires c =
    let t = c.requires in
    let long = ap length c.predict_one.ensures ∙ length-paint _ _ _ _ _ in
    record { legal = t.two c.if-shape.true; out_value = (rw long t.out, omega (arith, t.room), t.apart) }

pub returns-then-shape : goal.returns-then-shape
returns-then-shape c =
    let asked : Call = let a = c.args in
    call a.shape (ref (lent a.geom a.upper.now a.lower.now) a.from)
    (ref (lent a.geom2 a.upper2.now a.lower2.now) a.from2) a.stride in
    let a = c.args in
    let t = c.requires in
    rw c.predict_one.ensures at c.predict_two.ensures ∙ painted_two asked a.out.now _ t c.if-shape.true

pub returns-else-shape : goal.returns-else-shape
returns-else-shape c =
    let asked : Call = let a = c.args in
    call a.shape (ref (lent a.geom a.upper.now a.lower.now) a.from)
    (ref (lent a.geom2 a.upper2.now a.lower2.now) a.from2) a.stride in
    c.predict_one.ensures ∙ painted_one asked c.args.out.now c.if-shape.false
