-- `append_sub8x8_mvs` meets its contract: refused by the table, or the list made of the clamped pair. Assumes nothing.
use mathlib.Core.Path.{◌≡◌, sym, ap, ◌∙◌}
use Prim.Native.Nat.{◌≤◌}
use native.Mathlib.Omega.{arith}
use borrow.Author.Tests.{leb-true}
use lib.IntN.{pos}
use mir.Syntax.{w32}
use mir.Val.{to_z}
use mir.Facts.{to_z-of_z, to_z_pos}
use Rattle.std.proofs.lemmas.Result.{err_from_is_err_and}
use Rattle.base.specs.Answer.{answer}
use Rattle.base.specs.Number.{between}
use Rattle.base.proofs.Numbered.{not_zero}
use Rattle.records.specs.Seen.{seen, has_prev}
use Rattle.candidates.specs.Scan.{found}
use Rattle.candidates.specs.declared.find.Found.{Found}
use Rattle.candidates.specs.declared.held.Held.{Held}
use Rattle.lists.specs.MvRef.{clamp_ref, append_rows, append_mvs}
use Rattle.lists.proofs.Same.{pair_same, list_same}
use Rattle.lists.proofs.Table.{AppendOk, append_ok}
use Rattle.sub8x8.proofs.append.append_sub8x8_mvs.Goals as goal
use Rattle.sub8x8.proofs.append.append_sub8x8_mvs.Goals.{In_ok-site}

zero : (c : In_ok-site)
    → let a = c.args in answer (append_rows (seen a.tables) a.geometry a.target a.block a.block_mvs (has_prev a.tables)) ≡ 0
zero c = sym (rw (to_z-of_z c.ranges.target) at c.in_ok-site.ensures.told)

ok : (c : In_ok-site) → let a = c.args in AppendOk (seen a.tables) a.geometry a.block a.block_mvs (has_prev a.tables)
ok c = let a = c.args in append_ok (seen a.tables) a.geometry a.target a.block a.block_mvs (has_prev a.tables) (zero c)

small : (c : In_ok-site) → c.args.block ≤ 3
small c = leb-true c.args.block 3 (ok c).block

block_is : (c : In_ok-site) → to_z w32 c.args.block ≡ pos c.args.block
block_is c = to_z_pos w32 {n = c.args.block} (omega (arith, small c))

pub returns-in_err-site : goal.returns-in_err-site
unfolding append_mvs
returns-in_err-site c =
    let is = rw (to_z-of_z c.ranges.target) at c.in_err-site.ensures.told in
    let p = err_from_is_err_and c.from_residual.result c.from_residual.ensures.1 in
    rw (p.1, p.2, ← is, not_zero _)

pub overflow_cast-block : goal.overflow_cast-block
overflow_cast-block c = record { sfits = omega (arith, small c) }

pub search-found-requires : goal.search-found-requires
unfolding between
search-found-requires c =
    let call = ok c in
    record { block = rw (block_is c) call.block; long = rw c.in_ok-site.ensures.site call.long }

pub clamp_ref-first-requires : goal.clamp_ref-first-requires
clamp_ref-first-requires c = let call = ok c.before.before in record { border = omega arith; size = call.size; grid = call.grid }

pub clamp_ref-second-requires : goal.clamp_ref-second-requires
clamp_ref-second-requires c = let call = ok c.before.before.before.before in record { border = omega arith; size = call.size; grid = call.grid }

pub returns : goal.returns
unfolding append_mvs found
returns c =
    let before = c.before.before.before.before.before.before.before.before in
    let is = rw (to_z-of_z c.ranges.target, block_is before, c.in_ok-site.ensures.site) at c.search-found.ensures in
    let g = c.args.geometry in
    let one = c.clamp_ref-first.ensures ∙ ap (λ (f : Found). clamp_ref (pos 128) g f.first) is in
    let two = c.clamp_ref-second.ensures ∙ ap (λ (f : Found). clamp_ref (pos 128) g f.second) is in
    let whole = c.sub_list-list.ensures ∙ list_same c.args.block c.args.block_mvs one two in
    rw (zero before) (pair_same (ap (λ (h : Held). h.first) whole) (ap (λ (h : Held). h.second) whole))
