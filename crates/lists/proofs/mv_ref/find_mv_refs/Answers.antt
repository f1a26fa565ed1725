-- `find_mv_refs` meets its contract: refused by the table, or both candidates clamped. Assumes nothing.
use mathlib.Core.Path.{◌≡◌, sym, ap, ◌∙◌}
use mathlib.Core.Bool.{◌&&◌}
use native.Mathlib.Omega.{arith}
use lib.Dec.{leb}
use lib.IntN.{pos, negsuc}
use mir.Facts.{to_z-of_z}
use Rattle.std.proofs.lemmas.Result.{err_from_is_err_and}
use Rattle.base.specs.Answer.{answer}
use Rattle.base.specs.Number.{between}
use Rattle.base.proofs.Numbered.{not_zero}
use Rattle.records.specs.Seen.{seen, has_prev}
use Rattle.candidates.specs.Scan.{found}
use Rattle.candidates.specs.declared.find.Found.{Found}
use Rattle.lists.specs.MvRef.{clamp_ref, search_rows, find_mv_refs}
use Rattle.lists.proofs.Same.{refs_same}
use Rattle.lists.proofs.Table.{SearchOk, search_ok, SizedOk, sized_ok}
use Rattle.lists.proofs.mv_ref.find_mv_refs.Goals as goal
use Rattle.lists.proofs.mv_ref.find_mv_refs.Goals.{In_ok-site}

zero : (c : In_ok-site)
    → let a = c.args in answer (search_rows (seen a.tables) a.geometry a.target a.block (has_prev a.tables)) ≡ 0
zero c =
    let block = c.between-block_ok.ensures ∙ ap (between (negsuc 0) (pos 3)) (to_z-of_z c.ranges.block) in
    sym (rw (to_z-of_z c.ranges.target, block) at c.in_ok-site.ensures.told)

ok : (c : In_ok-site)
    → let a = c.args in
    SearchOk (seen a.tables) a.geometry a.target (leb a.geometry.mi_size 12 && between (negsuc 0) (pos 3) a.block) (has_prev a.tables)
ok c = let a = c.args in search_ok (seen a.tables) a.geometry a.target _ (has_prev a.tables) (zero c)

first : (c : In_ok-site) → SizedOk c.args.geometry (between (negsuc 0) (pos 3) c.args.block)
first c = sized_ok c.args.geometry _ (ok c).call.block

pub returns-in_err-site : goal.returns-in_err-site
unfolding find_mv_refs
returns-in_err-site c =
    let block = c.between-block_ok.ensures ∙ ap (between (negsuc 0) (pos 3)) (to_z-of_z c.ranges.block) in
    let is = rw (to_z-of_z c.ranges.target, block) at c.in_err-site.ensures.told in
    let p = err_from_is_err_and c.from_residual.result c.from_residual.ensures.1 in
    rw (p.1, p.2, ← is, not_zero _)

pub search-found-requires : goal.search-found-requires
search-found-requires c =
    record { block = rw (to_z-of_z c.ranges.block) (first c).block; long = rw c.in_ok-site.ensures.site (ok c).long }

pub clamp_ref-first-requires : goal.clamp_ref-first-requires
clamp_ref-first-requires c = let s = c.before.before in record { border = omega arith; size = (first s).size; grid = (ok s).call.grid }

pub clamp_ref-second-requires : goal.clamp_ref-second-requires
clamp_ref-second-requires c =
    let s = c.before.before.before.before in record { border = omega arith; size = (first s).size; grid = (ok s).call.grid }

pub returns : goal.returns
unfolding find_mv_refs found
returns c =
    let is = rw (to_z-of_z c.ranges.target, to_z-of_z c.ranges.block, c.in_ok-site.ensures.site) at c.search-found.ensures in
    let g = c.args.geometry in
    rw (zero c.before.before.before.before.before)
    (refs_same
    (c.clamp_ref-first.ensures ∙ ap (λ (f : Found). clamp_ref (pos 128) g f.first) is)
    (c.clamp_ref-second.ensures ∙ ap (λ (f : Found). clamp_ref (pos 128) g f.second) is)
    (ap (λ (f : Found). f.context) is))
