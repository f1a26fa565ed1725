-- The answers of the calls on vectors make the number of the table. Assumes nothing.
use mathlib.Core.Path.{◌≡◌, refl, ap}
use mathlib.Core.Bool.{Bool, true, ◌&&◌}
use mathlib.Core.List.{[]}
use lib.IntN.{ℤ}
use lib.ListN.{get_or}
use Rattle.base.specs.Answer.{unless, answer}
use Rattle.base.specs.Number.{within}
use Rattle.base.proofs.Tests.{and_three}
use Rattle.vectors.specs.BlockMvs.{BlockMvs}
use Rattle.vectors.specs.Select.{list_number}
use Rattle.vectors.specs.declared.inter_mv.BlockGrid.{BlockGrid}
use Rattle.judgement.specs.Whole.{block_ok}
use Rattle.judgement.specs.Chain.{lead}
use Rattle.judgement.specs.declared.judging.InterPredArgs.{InterPredArgs}
use Rattle.judgement.specs.declared.judging.FrameGeom.{FrameGeom}
use Rattle.judgement.proofs.Joined.{same_number, block_at, grid_at, size_at, start_at, vector_at}
use Rattle.reach_inter.specs.InterReach.{of_size, inter_rows}
use Rattle.reach_inter.specs.Chain.{refusal}

pub joined : (b : InterPredArgs) (g : BlockGrid) (f : FrameGeom) (mvs : BlockMvs) (second : Bool) (x y : ℤ)
    → refusal b (lead b g f (of_size x y) (get_or mvs (list_number second) [])) ≡ answer (inter_rows b g f mvs second x y)
unfolding refusal unless
joined b g f mvs second x y =
    let W = within 1 64 b.w in
    let H = within 1 64 b.h in
    let ok : block_ok b g f && W && H ≡ true → block_ok b g f ≡ true = λ e. (and_three (block_ok b g f) W H e).0 in
    let s = of_size x y in
    let l = get_or mvs (list_number second) [] in
    same_number _ _ true _ _ true _ _ _ _ _ true _
    (ap (λ (t : Bool). t && W && H) (block_at b g f s l))
    (λ e. grid_at b g f s l (ok e))
    (λ e. size_at b g f s l (ok e))
    (λ e u. start_at b g f s l (ok e) u)
    (λ u. refl)
    (λ e. vector_at b g f mvs s (list_number second) (ok e))
