-- `search_allowed` meets its contract: the tables are asked only where the call is in order. Assumes nothing.
use mathlib.Core.Path.{refl, sym, ◌∙◌}
use mathlib.Core.Bool.{◌&&◌}
use lib.Dec.{leb}
use mir.Facts.{to_z-of_z}
use Rattle.base.proofs.Numbered.{not_accepted}
use Rattle.base.proofs.Rows.{handed}
use Rattle.records.specs.Seen.{seen, has_prev}
use Rattle.lists.specs.Rows.{call_rows, table_rows}
use Rattle.lists.proofs.Table.{refused_more, accepted_more, call_ok, sized_ok}
use Rattle.lists.proofs.mv_ref.search_allowed.Goals as goal

pub returns-in_err-call_allowed-clause-told : goal.returns-in_err-call_allowed-clause-told
returns-in_err-call_allowed-clause-told c =
    let a = c.args in
    let is = rw (to_z-of_z c.ranges.target) at c.in_err-call_allowed.ensures in
    handed _ _ c.from_residual.ensures.1 ∙ is
    ∙ sym (refused_more (call_rows (leb a.g.mi_size 12 && a.block_ok) a.g a.target) (table_rows (seen a.tables) a.g (has_prev a.tables))
    (λ e. not_accepted _ (is ∙ e)))

pub new-site-requires : goal.new-site-requires
new-site-requires c =
    let is = rw (to_z-of_z c.ranges.target) at c.in_ok-call_allowed.ensures in
    let a = c.args in
    let ok = call_ok (leb a.g.mi_size 12 && a.block_ok) a.g a.target (sym is) in
    record { grid = ok.grid; size = (sized_ok a.g a.block_ok ok.block).size }

pub returns-in_err-tables_allowed-clause-told : goal.returns-in_err-tables_allowed-clause-told
returns-in_err-tables_allowed-clause-told c =
    let a = c.args in
    let is = rw (to_z-of_z c.ranges.target) at c.in_ok-call_allowed.ensures in
    let no = rw c.new-site.ensures at c.in_err-tables_allowed.ensures in
    handed _ _ c.from_residual-in_err-tables_allowed.ensures.1 ∙ no
    ∙ sym (accepted_more 0 (call_rows (leb a.g.mi_size 12 && a.block_ok) a.g a.target) (table_rows (seen a.tables) a.g (has_prev a.tables)) refl (sym is))

pub returns-clause-told : goal.returns-clause-told
returns-clause-told c =
    let a = c.args in
    let is = rw (to_z-of_z c.ranges.target) at c.in_ok-call_allowed.ensures in
    rw c.new-site.ensures at c.in_ok-tables_allowed.ensures
    ∙ sym (accepted_more 0 (call_rows (leb a.g.mi_size 12 && a.block_ok) a.g a.target) (table_rows (seen a.tables) a.g (has_prev a.tables)) refl (sym is))
