-- `predict_inter` meets its contract: untouched where it is refused, else the part inside the destination painted. Assumes nothing.
use Rattle.std.proofs.lemmas.Result.{err_from_is_err_and}
use Rattle.prediction.proofs.Ready.{corner, refused, told_zero, ready_call, accepted_call}
use Rattle.prediction.proofs.inter_pred.predict_inter.Goals as goal

pub returns-in_err-judged : goal.returns-in_err-judged
returns-in_err-judged c =
    let p = err_from_is_err_and c.from_residual.result c.from_residual.ensures.1 in
    rw (p.1, p.2) (refused _ _ _ c.judge-judged.result _ c.judge-judged.ensures c.in_err-judged.was)

pub first_in-i-requires : goal.first_in-i-requires
first_in-i-requires c = corner _ _ _ (told_zero _ _ _ c.judge-judged.result c.judge-judged.ensures c.in_ok-judged.was)

pub predict-requires : goal.predict-requires
predict-requires c =
    ready_call _ _ _ c.judge-judged.result c.judge-judged.ensures c.in_ok-judged.was _ _ _ _
    c.shape_in-shape.ensures c.referred_in-first.ensures c.referred_in-second.ensures c.first_in-i.ensures

pub returns : goal.returns
returns c =
    accepted_call _ _ _ c.judge-judged.result c.judge-judged.ensures c.in_ok-judged.was _ _ _ _
    c.shape_in-shape.ensures c.referred_in-first.ensures c.referred_in-second.ensures c.first_in-i.ensures _ _ c.predict.ensures
