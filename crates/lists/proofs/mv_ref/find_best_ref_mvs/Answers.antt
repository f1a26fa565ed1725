-- `find_best_ref_mvs` meets its contract: refused by the table, or both vectors lowered and clamped. Assumes nothing.
use mathlib.Core.Path.{sym, ap, ◌∙◌}
use native.Mathlib.Omega.{arith}
use lib.IntN.{pos}
use Rattle.std.proofs.lemmas.Result.{err_from_is_err_and}
use Rattle.base.specs.declared.units.Mv.{Mv}
use Rattle.base.proofs.Numbered.{not_zero}
use Rattle.lists.specs.MvRef.{clamp_ref, best_mvs}
use Rattle.lists.proofs.Same.{pair_same}
use Rattle.lists.proofs.Table.{BestOk, best_ok}
use Rattle.lists.proofs.mv_ref.find_best_ref_mvs.Goals as goal
use Rattle.lists.proofs.mv_ref.find_best_ref_mvs.Goals.{In_ok-best_allowed}

ok : (c : In_ok-best_allowed) → let a = c.args in BestOk a.geometry a.first a.second
ok c = let a = c.args in best_ok a.geometry a.first a.second (sym c.in_ok-best_allowed.ensures)

pub returns-in_err-best_allowed : goal.returns-in_err-best_allowed
unfolding best_mvs
returns-in_err-best_allowed c =
    let p = err_from_is_err_and c.from_residual.result c.from_residual.ensures.1 in
    rw (p.1, p.2, ← c.in_err-best_allowed.ensures, not_zero _)

pub lowered-requires : goal.lowered-requires
lowered-requires c = (ok c).first

pub clamp_ref-nearest-requires : goal.clamp_ref-nearest-requires
clamp_ref-nearest-requires c = let call = ok c.before in record { border = omega arith; size = call.size; grid = call.grid }

pub lowered-requires-2 : goal.lowered-requires-2
lowered-requires-2 c = (ok c.before.before).second

pub clamp_ref-near-requires : goal.clamp_ref-near-requires
clamp_ref-near-requires c = let call = ok c.before.before.before in record { border = omega arith; size = call.size; grid = call.grid }

pub returns : goal.returns
unfolding best_mvs
returns c =
    let clamped : Mv → Mv = clamp_ref (pos 1248) c.args.geometry in
    let first = c.clamp_ref-nearest.ensures ∙ ap clamped c.lowered.ensures in
    rw (← c.in_ok-best_allowed.ensures) (pair_same first (c.clamp_ref-near.ensures ∙ ap clamped c.lowered-2.ensures))
