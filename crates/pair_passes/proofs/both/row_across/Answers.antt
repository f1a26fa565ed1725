-- `pair_passes::both::row_across` meets its contract: where no column is held, the row itself is the line. Assumes nothing.
use mathlib.Core.Path.{◌≡◌, ap, ◌∙◌}
use Prim.Native.Nat.{ℕ, ◌+◌, ◌-◌, ◌/◌, min}
use native.Mathlib.Omega.{arith}
use lib.ListN.{get_or}
use Rattle.base.proofs.Painted.{fill_same}
use Rattle.taps.specs.Kernel.{held_from}
use Rattle.pair_passes.proofs.TwoRows.{line_pair}
use Rattle.pair_passes.proofs.both.row_across.Goals as goal

pub returns-in-Some : goal.returns-in-Some
unfolding held_from
returns-in-Some c =
    let a = c.args in
    let d = c.in-Some.d in
    let from = c.in-Some.ensures in
    rw c.of.ensures at c.row_stepped.ensures
    ∙ fill_same _ _ _ _ _
    (line_pair a.max a.row.now a.row.now a.last a.start a.step a.w d
    (λ j jm.
    let f : d + j ≡ min (a.start / 16 + 3 + j - 200003) a.last = omega (arith, from, c.if-d-m.true) in
    ap (λ (k : ℕ). get_or a.row.now k 0) f))
