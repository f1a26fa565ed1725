-- `select_mv` meets its contract: refused by the table, or the chosen vector. Assumes nothing.
use mathlib.Core.Path.{◌≡◌, sym, ◌∙◌}
use Rattle.std.proofs.lemmas.Result.{err_from_is_err_and}
use Rattle.base.proofs.Numbered.{not_zero}
use Rattle.base.specs.declared.units.Mv.{Mv}
use Rattle.vectors.specs.Select.{select_mv, list_number}
use Rattle.vectors.specs.declared.inter_mv.SelectedMv.{SelectedMv}
use Rattle.vectors.proofs.Accepted.{select_ok}
use Rattle.selection.proofs.Parts.{legal-list, list_number-byte, list_number_small}
use Rattle.vectors.proofs.inter_mv.select_mv.Goals as goal
use Rattle.vectors.proofs.inter_mv.select_mv.Goals.{After-from-list}

-- equal vectors make equal results
same : {v w : Mv} → v ≡ w → ◌≡◌ {A = SelectedMv} (record { answer = 0; mv = v }) (record { answer = 0; mv = w })
same e = rw e

pub returns-in_err-select_allowed : goal.returns-in_err-select_allowed
unfolding select_mv
returns-in_err-select_allowed c =
    let p = err_from_is_err_and c.from_residual.result c.from_residual.ensures.1 in
    rw (p.1, p.2, ← c.in_err-select_allowed.ensures, not_zero c.in_err-select_allowed.field-0.0)

list-is : (c : After-from-list) → c.from-list.result ≡ list_number c.args.second
list-is c = c.from-list.ensures ∙ list_number-byte c.args.second

pub chosen-vector-requires : goal.chosen-vector-requires
chosen-vector-requires c =
    let x = c.args in
    let a = select_ok x.mvs x.plane x.size x.block x.sx x.sy (sym c.in_ok-select_allowed.ensures) in
    rw (list-is c)
    (record { within = (list_number_small x.second, a.block); partner = a.partner; legal = legal-list x.mvs a.vectors x.second })

pub returns : goal.returns
unfolding select_mv
returns c =
    let list = c.from-list.ensures ∙ list_number-byte c.args.second in
    rw (← c.in_ok-select_allowed.ensures) (same (rw list at c.chosen-vector.ensures))
