-- `samples::block_inter_pred::block_inter_predict` meets its contract: painted where it is accepted, untouched where it is refused. Assumes nothing.
use Rattle.std.proofs.Common.{sym}
use Rattle.std.proofs.lemmas.Result.{err_from_is_err_and}
use Rattle.samples.proofs.Accepted.{accepted, refused, painted}
use Rattle.samples.proofs.block_inter_pred.block_inter_predict.Goals as goal

pub returns-in_err-predictable : goal.returns-in_err-predictable
returns-in_err-predictable c =
    let p = err_from_is_err_and c.from_residual.result c.from_residual.ensures.1 in
    rw (p.1, p.2) (refused _ _ _ _ c.in_err-predictable.ensures)

pub predict_accepted-requires : goal.predict_accepted-requires
predict_accepted-requires c = accepted _ _ _ (sym c.in_ok-predictable.ensures)

pub returns : goal.returns
returns c = painted _ _ _ _ _ c.in_ok-predictable.ensures c.predict_accepted.ensures
