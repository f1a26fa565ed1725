-- `predict` meets its contract: nothing where the part is empty, else what the block prediction below paints.
-- Assumes nothing.
use mathlib.Core.Path.{sym, ap, ◌∙◌}
use mathlib.Core.List.{List, ◌++◌}
use Prim.Native.Nat.{ℕ}
use borrow.Author.Rules.{part_to_end}
use lib.ListN.{length, take, length-drop}
use Rattle.base.specs.Paint.{on_part}
use Rattle.blocks.specs.Referred.{referred}
use Rattle.samples.specs.Call.{call}
use Rattle.samples.proofs.Accepted.{accepted}
use Rattle.prediction.specs.Chain.{paint_from}
use Rattle.prediction.proofs.Ready.{paint_none, none_or, some-both, put_rest}
use Rattle.prediction.proofs.inter_pred.predict.Goals as goal

pub returns-then-shape : goal.returns-then-shape
returns-then-shape c =
    let a = c.args in
    sym (paint_none (call a.shape (referred a.one) (referred a.two) a.stride) a.i a.out.now (none_or a.shape.w a.shape.h c.if-shape.true))

pub predict_accepted-requires : goal.predict_accepted-requires
predict_accepted-requires c =
    let a = c.args in
    let some = some-both a.shape.w a.shape.h c.if-shape.false in
    let rest = ap length (part_to_end a.out.now a.i) ∙ length-drop a.i a.out.now in
    accepted (call a.shape (referred a.one) (referred a.two) a.stride) _ _ (rw rest (c.requires.taken some.0 some.1))

pub returns : goal.returns
unfolding paint_from on_part
returns c =
    let a = c.args in
    let some = some-both a.shape.w a.shape.h c.if-shape.false in
    let painted = rw (part_to_end a.out.now a.i) at c.predict_accepted.ensures in
    put_rest a.i a.out.now _ (c.requires.place some.0 some.1) ∙ ap (λ (l : List ℕ). take a.i a.out.now ++ l) painted
