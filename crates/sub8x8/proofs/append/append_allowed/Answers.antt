-- `append_allowed` meets its contract: row 9 is asked where the search's rows pass. Assumes nothing.
use mathlib.Core.Path.{◌≡◌, refl, sym, ◌∙◌}
use mathlib.Core.Bool.{◌&&◌}
use mathlib.Core.List.{List, [], ◌∷◌}
use Prim.Native.Nat.{ℕ}
use lib.Dec.{leb}
use lib.IntN.{ℤ}
use mir.Facts.{to_z-of_z}
use Rattle.base.specs.Answer.{Row, row, unless, answer, VECTOR}
use Rattle.base.specs.Refused.{number}
use Rattle.base.proofs.Numbered.{not_accepted}
use Rattle.base.proofs.Rows.{past, left, handed}
use Rattle.base.specs.declared.units.Mv.{Mv}
use Rattle.records.specs.declared.geometry.MvRefGeometry.{MvRefGeometry}
use Rattle.records.specs.declared.tables.LentTables.{LentTables}
use Rattle.records.specs.Seen.{seen, has_prev}
use Rattle.lists.specs.MvRef.{legal_four, append_rows}
use Rattle.lists.specs.Rows.{shared_rows}
use Rattle.lists.proofs.Table.{refused_more, accepted_more}
use Rattle.sub8x8.proofs.append.append_allowed.Goals as goal

abbrev rows : LentTables → MvRefGeometry → ℤ → ℕ → List Row
rows l g target block = shared_rows (seen l) g target (leb g.mi_size 12 && leb block 3) (has_prev l)

-- the search's rows pass: row 9 is left
ninth : (l : LentTables) (g : MvRefGeometry) (target : ℤ) (block : ℕ) (m : List Mv) → 0 ≡ answer (rows l g target block)
    → unless 9 (legal_four m) 0 ≡ answer (append_rows (seen l) g target block m (has_prev l))
ninth l g target block m is = sym (accepted_more 0 (rows l g target block) (row VECTOR (legal_four m) ∷ []) refl (sym is))

pub returns-in_err-site-clause-told : goal.returns-in_err-site-clause-told
returns-in_err-site-clause-told c =
    let a = c.args in
    let all = rows a.tables a.g a.target a.block in
    let is : number c.in_err-site.field-0.0 ≡ answer all = rw (to_z-of_z c.ranges.target) at c.in_err-site.ensures.told in
    handed _ _ c.from_residual.ensures.1 ∙ is
    ∙ sym (refused_more all (row VECTOR (legal_four a.m) ∷ []) (λ e. not_accepted _ (is ∙ e)))

pub returns-in_err-unless-clause-told : goal.returns-in_err-unless-clause-told
returns-in_err-unless-clause-told c =
    let a = c.args in
    let e = rw c.is_legal_four.ensures at c.in_err-unless.ensures in
    handed _ _ c.from_residual-in_err-unless.ensures.1 ∙ left _ _ 0 _ (sym e)
    ∙ ninth a.tables a.g a.target a.block a.m (rw (to_z-of_z c.ranges.target) at c.in_ok-site.ensures.told)

pub returns-clause-told : goal.returns-clause-told
returns-clause-told c =
    let a = c.args in
    let e = rw c.is_legal_four.ensures at c.in_ok-unless.ensures in
    past _ _ 0 (sym e) ∙ ninth a.tables a.g a.target a.block a.m (rw (to_z-of_z c.ranges.target) at c.in_ok-site.ensures.told)
