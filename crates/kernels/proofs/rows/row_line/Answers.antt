-- `kernels::rows::row_line` meets its contract: each of its three ways is the same row. Assumes nothing.
use mathlib.Core.Path.{◌≡◌, ◌∙◌}
use native.Mathlib.Omega.{arith}
use Rattle.base.proofs.Painted.{fill_same}
use Rattle.taps.specs.Taps.{tap}
use Rattle.kernels.proofs.Lines.{first_row, ran_stepped, clipped_stepped}
use Rattle.taps.proofs.Loops.{one-row}
use Rattle.kernels.proofs.rows.row_line.Goals as goal

pub returns-then-p-eq0 : goal.returns-then-p-eq0
returns-then-p-eq0 c =
    let a = c.args in
    let e : a.step ≡ 16 = omega arith in
    let z : a.p.phase ≡ 0 = omega arith in
    rw (e, z)
    (c.row_clipped.ensures
    ∙ fill_same _ _ _ _ _ (λ k kw. clipped_stepped a.max a.p.filter a.l.now a.d k c.requires.step_bound.0))

pub returns-else-p-eq0 : goal.returns-else-p-eq0
returns-else-p-eq0 c =
    let a = c.args in
    let e : a.step ≡ 16 = omega arith in
    rw e
    (c.rows_across.ensures
    ∙ one-row _ _ _ _ _
    ∙ fill_same _ _ _ _ _
    (λ k kw.
    first_row a.max _ a.l.now 1 a.d 0 k
    ∙ ran_stepped a.max (tap a.p.filter) a.l.now a.d a.p.phase k c.requires.step_bound.1))
