-- `kernels::rows::row_across` meets its contract: where no column is held, the row itself is the line. Assumes nothing.
use mathlib.Core.Path.{◌≡◌, ap, ◌∙◌}
use Prim.Native.Nat.{ℕ, ◌+◌, ◌-◌, ◌/◌, ◌%◌, min}
use native.Mathlib.Omega.{arith}
use lib.ListN.{get_or}
use Rattle.base.proofs.Painted.{fill_same}
use Rattle.taps.specs.Taps.{tap}
use Rattle.taps.specs.Kernel.{held_from}
use Rattle.kernels.proofs.Lines.{line_is}
use Rattle.kernels.proofs.rows.row_across.Goals as goal

pub returns-in-Some : goal.returns-in-Some
unfolding held_from
returns-in-Some c =
    let a = c.args in
    let e : a.p.phase ≡ a.start % 16 = c.requires.start_bound.1 in
    let d = c.in-Some.d in
    let from = c.in-Some.ensures in
    rw e at c.row_line.ensures
    ∙ fill_same _ _ _ _ _
    (line_is a.max (tap a.p.filter) a.row.now a.row.now a.last a.start a.step a.w d
    (λ j jm.
    let f : d + j ≡ min (a.start / 16 + j - 200003) a.last = omega (arith, from, c.if-d-m.true) in
    ap (λ (k : ℕ). get_or a.row.now k 0) f))
