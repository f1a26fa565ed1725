-- `lanes::lanes::narrow` meets its contract: the first w of each eight. Assumes nothing.
use mathlib.Core.Path.{◌≡◌, ◌∙◌}
use native.Mathlib.Omega.{arith}
use Rattle.taps.proofs.Loops.{rows_kept}
use Rattle.lanes.proofs.lanes.narrow.Goals as goal

pub returns-then-w-eq4 : goal.returns-then-w-eq4
returns-then-w-eq4 g c =
    let a = c.args in
    let four : a.w ≡ 4 = omega arith in
    rw four (rw c.rows_low.ensures at c.rows_four.ensures ∙ rows_kept _ a.out.now 4 a.h a.at a.stride _ (omega arith) (omega arith))

pub returns-else-w-eq4 : goal.returns-else-w-eq4
returns-else-w-eq4 g c =
    let a = c.args in
    rw c.rows_low.ensures at c.rows_first.ensures ∙ rows_kept _ a.out.now a.w a.h a.at a.stride _ (omega arith) (omega arith)
