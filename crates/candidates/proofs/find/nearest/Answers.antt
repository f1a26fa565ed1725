-- `candidates::nearest` meets its contract: place one offers, then place two. Assumes nothing.
use mathlib.Core.Path.{◌≡◌, sym, ap, ◌∙◌}
use Prim.Native.Nat.{ℕ}
use mir.Syntax.{w32}
use mir.Val.{to_z, of_z}
use Rattle.candidates.specs.Offers.{none, offers, sub_number}
use Rattle.candidates.specs.Scan.{column_step, sub_place_at, nearest_of}
use Rattle.records.proofs.Fit.{back}
use Rattle.candidates.proofs.Empty.{none_is}
use Rattle.candidates.proofs.Folds.{offers_append}
use Rattle.candidates.proofs.find.nearest.Goals as goal

pub returns : goal.returns
unfolding nearest_of
returns c =
    let first_number : let a = c.args in c.sub_number-first.result ≡ sub_number a.block (column_step a.near 0) = let step = c.step_of in
    let column : to_z w32 (of_z w32 step.result) ≡ column_step c.args.near 0 = back (record { sfits = step.type_inv }) ∙ step.ensures in
    c.sub_number-first.ensures.is ∙ rw (back c.ranges.block, column) in
    let second_number : let a = c.args in c.sub_number-second.result ≡ sub_number a.block (column_step a.near 1) = let step = c.step_of-2 in
    let column : to_z w32 (of_z w32 step.result) ≡ column_step c.args.near 1 = back (record { sfits = step.type_inv }) ∙ step.ensures in
    c.sub_number-second.ensures.is ∙ rw (back c.ranges.block, column) in
    let a = c.args in
    let target = back c.ranges.target in
    let of = sub_place_at a.tables.frames.now a.tables.subs.now a.target in
    let one = of (sub_number a.block (column_step a.near 0)) a.one in
    let two = of (sub_number a.block (column_step a.near 1)) a.two in
    let first : c.sub_place-h.result ≡ offers none one =
    c.sub_place-h.ensures ∙ rw (target, none_is c.default.result c.default.ensures) (ap (λ (m : ℕ). offers none (of m a.one)) first_number) in
    c.sub_place.ensures
    ∙ rw (target, first) (ap (λ (m : ℕ). offers (offers none one) (of m a.two)) second_number) ∙ sym (offers_append none one two)
