-- `kernels::down::row_down` meets its contract: phase 0 is the fourth row, any other the first of one row. Assumes nothing.
use mathlib.Core.Path.{◌≡◌, ◌∙◌}
use native.Mathlib.Omega.{arith}
use Rattle.base.proofs.Painted.{fill_same}
use Rattle.taps.proofs.Loops.{one-row}
use Rattle.kernels.proofs.Lines.{first_row, down_whole}
use Rattle.kernels.proofs.down.row_down.Goals as goal

pub returns-then-p-eq0 : goal.returns-then-p-eq0
returns-then-p-eq0 c =
    let a = c.args in
    let z : a.p.phase ≡ 0 = omega arith in
    rw z
    (c.row_clipped.ensures
    ∙ fill_same _ _ _ _ _ (λ k kw. down_whole a.max a.p.filter a.room.now a.b k c.requires.w_bound.0))

pub returns-else-p-eq0 : goal.returns-else-p-eq0
returns-else-p-eq0 c =
    let a = c.args in
    c.rows_down.ensures
    ∙ one-row _ _ _ _ _
    ∙ fill_same _ _ _ _ _ (λ k kw. first_row a.max _ a.room.now 64 a.b 64 k)
