-- What an accepted whole prediction says: its starts and steps are those of the three calls on vectors, and the block prediction below it
-- can't refuse them. Assumes nothing.
use mathlib.Core.Path.{◌≡◌, sym, ap, ◌∙◌}
use mathlib.Core.Bool.{Bool, true, false, ◌&&◌, cond}
use mathlib.Core.List.{List, [], ◌∷◌}
use Prim.Native.Nat.{ℕ, ◌≤◌}
use native.Mathlib.Omega.{arith}
use borrow.Author.Tests.{leb-true, le-leb}
use lib.Dec.{leb, eqb}
use lib.IntN.{ℤ, pos}
use lib.ListN.{get_or}
use Rattle.base.specs.Answer.{unless, answer}
use Rattle.base.specs.Number.{between, within}
use Rattle.base.specs.Position.{to_n}
use Rattle.base.specs.declared.units.Mv.{Mv}
use Rattle.base.proofs.Answered.{unless_zero}
use Rattle.base.proofs.Tests.{clash, and_both, and_three, and_four, within_both, abs-between}
use Rattle.vectors.specs.BlockMvs.{BlockMvs, legal_list, legal_block}
use Rattle.vectors.specs.Select.{select_mv, select_rows, chosen, all_four, list_number, partnered}
use Rattle.vectors.specs.Clamp.{clamp_mv, clamp_rows, on_axis}
use Rattle.vectors.specs.Scale.{scale_mv, scale_rows, placed, step_axis}
use Rattle.selection.proofs.Near.{chosen_legal}
use Rattle.scaling.proofs.Scaled.{start_near, step_in}
use Rattle.vectors.proofs.Near.{clamped_legal}
use Rattle.vectors.proofs.Accepted.{scale_ok}
use Rattle.vectors.specs.declared.inter_mv.BlockGrid.{BlockGrid}
use Rattle.planes.specs.Plane.{fits}
use Rattle.blocks.specs.Block.{also, kind, starts}
use Rattle.base.specs.declared.units.Stepping.{Stepping}
use Rattle.judgement.specs.Whole.{Source, Whole, stepping, stepping_of, scale_geom, plane_of, shape_of, allowed_ref, dest_fits, block_ok, number_of}
use Rattle.judgement.specs.declared.judging.InterPredArgs.{InterPredArgs}
use Rattle.judgement.specs.declared.judging.FrameGeom.{FrameGeom}
use Rattle.judgement.specs.declared.judging.RefGeom.{RefGeom}
use Rattle.judgement.specs.declared.judging.Judged.{Judged}
use Rattle.judgement.specs.Chain.{Lead, lead, Judgement}
use Rattle.judgement.proofs.Joined.{also_yes}

-- what each row of the table says of an accepted call, with a destination of n samples and a room of m
pub record Accepted (a : Whole) (n m : ℕ) : Type 0 where
  pub block : block_ok a.args a.grid a.frame ≡ true
  pub w : (1 ≤ a.args.w) × (a.args.w ≤ 64)
  pub h : (1 ≤ a.args.h) × (a.args.h ≤ 64)
  pub grid : (on_axis a.grid.mi_rows a.grid.mi_row && on_axis a.grid.mi_cols a.grid.mi_col) ≡ true
  pub filter : kind (shape_of a) ≡ true
  pub one : allowed_ref a.frame a.one.geom ≡ true
  pub two : also a.args.average (allowed_ref a.frame a.two.geom) ≡ true
  pub place : (placed a.args.x && placed a.args.y) ≡ true
  pub bands : fits (plane_of a a.one) ≡ true
  pub bands2 : also a.args.average (fits (plane_of a a.two)) ≡ true
  pub dest : dest_fits a.dest n ≡ true
  pub room : leb 8576 m ≡ true
  pub vectors : legal_list a.mvs 0 ≡ true
  pub vectors2 : also a.args.average (legal_list a.mvs 1) ≡ true

pub accepted : (a : Whole) (n m : ℕ) → number_of a n m ≡ 0 → Accepted a n m
unfolding number_of
accepted a n m e =
    let r1 = unless_zero 0 _ _ e in
    let r2 = unless_zero 1 _ _ r1.1 in
    let r4 = unless_zero 3 _ _ r2.1 in
    let r5 = unless_zero 4 _ _ r4.1 in
    let r6 = unless_zero 5 _ _ r5.1 in
    let r7 = unless_zero 6 _ _ r6.1 in
    let r9 = unless_zero 8 _ _ r7.1 in
    let block = and_three _ (within 1 64 a.args.w) (within 1 64 a.args.h) r1.0 in
    let size = and_both _ _ r5.0 in
    let lent = and_four _ _ _ _ r7.0 in
    let vector = and_both _ _ r9.0 in
    record {
      block = block.0;
      w = within_both 1 64 a.args.w block.1.0;
      h = within_both 1 64 a.args.h block.1.1;
      grid = r2.0;
      filter = r4.0;
      one = size.0;
      two = size.1;
      place = r6.0;
      bands = lent.0;
      bands2 = lent.1.0;
      dest = lent.1.1.0;
      room = lent.1.1.1;
      vectors = vector.0;
      vectors2 = vector.1;
    }

-- ---- one list's chain

pub both_true : {t u : Bool} → t ≡ true → u ≡ true → (t && u) ≡ true
both_true e f = rw (e, f)

-- tables whose tests pass
zero-two : (r v : Bool) → r ≡ true → v ≡ true → unless 1 r (unless 9 v 0) ≡ 0
unfolding unless
zero-two r v e f = rw (e, f)

zero-three : (r g v : Bool) → r ≡ true → g ≡ true → v ≡ true → unless 1 r (unless 2 g (unless 9 v 0)) ≡ 0
unfolding unless
zero-three r g v e f h = rw (e, f, h)

zero-four : (r u p v : Bool) → r ≡ true → u ≡ true → p ≡ true → v ≡ true → unless 1 r (unless 5 u (unless 6 p (unless 9 v 0))) ≡ 0
unfolding unless
zero-four r u p v e f g h = rw (e, f, g, h)

-- what an accepted call gives
pub given : {A : Type 0} (k : ℕ) (x y : A) → k ≡ 0 → cond (eqb k 0) x y ≡ x
given k x y e = rw e

step-between : (reference frame : ℤ) → (1 ≤ to_n (step_axis reference frame)) × (to_n (step_axis reference frame) ≤ 32)
    → between (pos 1) (pos 32) (step_axis reference frame) ≡ true
unfolding between step_axis
step-between reference frame e = rw (le-leb 1 _ e.0, le-leb _ 32 e.1)

-- a list that is looked at, in a call whose other tests passed: its vectors are legal and its reference is allowed
pub record Looked (b : InterPredArgs) (g : BlockGrid) (f : FrameGeom) (mvs : BlockMvs) (second : Bool) (s : RefGeom) : Type 0 where
  pub block : block_ok b g f ≡ true
  pub grid : (on_axis g.mi_rows g.mi_row && on_axis g.mi_cols g.mi_col) ≡ true
  pub size : allowed_ref f s ≡ true
  pub place : (placed b.x && placed b.y) ≡ true
  pub vectors : legal_list mvs (list_number second) ≡ true

module _ (b : InterPredArgs) (g : BlockGrid) (f : FrameGeom) (mvs : BlockMvs) (second : Bool) (s : RefGeom) (look : Looked b g f mvs second s) where
  abbrev sx : Bool
  sx = f.subsampling_x

  abbrev sy : Bool
  sy = f.subsampling_y

  abbrev v : Mv
  v = chosen mvs (list_number second) b.plane g.mi_size b.block sx sy

  abbrev of : List Mv
  of = get_or mvs (list_number second) []

  -- the selection is not refused, though it is handed the one list twice
  twice : legal_block (of ∷ of ∷ []) ≡ true
  unfolding legal_block legal_list
  twice = both_true look.vectors look.vectors

  select_zero : answer (select_rows (of ∷ of ∷ []) b.plane g.mi_size b.block sx sy) ≡ 0
  unfolding block_ok
  select_zero = zero-two _ _ look.block twice

  -- and chooses the definition's vector
  selected : (select_mv (of ∷ of ∷ []) false b.plane g.mi_size b.block sx sy).mv ≡ v
  unfolding select_mv chosen all_four
  selected = given _ _ _ select_zero

  -- where the scaling leads from a vector
  abbrev onward : Mv → Stepping
  onward u =
      let q = scale_mv (scale_geom f s) b.plane b.x b.y (clamp_mv g u b.plane sx sy).mv in
      record { start_x = q.start_x; start_y = q.start_y; step_x = q.step_x; step_y = q.step_y }

  pub leads : (lead b g f s of).from ≡ stepping b g f mvs second s
  unfolding lead stepping
  leads = ap onward selected

  -- ---- what it leads to

  tests : (leb g.mi_size 12 ≡ true) × ((leb b.block 3 ≡ true) × ((leb b.plane 2 ≡ true)
      × (partnered b.plane g.mi_size b.block sx sy ≡ true)))
  unfolding block_ok
  tests = and_four _ _ _ _ look.block

  clamp_zero : answer (clamp_rows g v b.plane) ≡ 0
  clamp_zero =
      let t = tests in
      let legal = chosen_legal mvs (list_number second) b.plane g.mi_size b.block sx sy
      (omega (arith, leb-true b.block 3 t.1.0)) t.1.1.1 look.vectors in
      zero-three _ _ _ (both_true t.0 t.1.1.0) look.grid legal

  scale_zero : let p = (clamp_mv g v b.plane sx sy).mv in answer (scale_rows (scale_geom f s) b.plane b.x b.y p) ≡ 0
  unfolding allowed_ref
  scale_zero = zero-four _ _ _ _ tests.1.1.0 look.size look.place (clamped_legal g v b.plane sx sy clamp_zero)

  -- 'its own start and step can't be refused below'
  pub starts_taken : starts (stepping b g f mvs second s) ≡ true
  unfolding starts stepping scale_mv
  starts_taken =
      let p = (clamp_mv g v b.plane sx sy).mv in
      let k = scale_ok (scale_geom f s) b.plane b.x b.y p scale_zero in
      let x = start_near s.frame_width f.width b.x p.col.0 b.plane sx k.across k.x_ok k.col in
      let y = start_near s.frame_height f.height b.y p.row.0 b.plane sy k.down k.y_ok k.row in
      let i = step_in s.frame_width f.width k.across in
      let j = step_in s.frame_height f.height k.down in
      rw scale_zero
      (both_true
      (both_true
      (both_true (abs-between 2999999 _ x) (abs-between 2999999 _ y))
      (step-between s.frame_width f.width i))
      (step-between s.frame_height f.height j))

-- ---- both lists

abbrev LookedIn : Whole → Bool → Source → Type 0
LookedIn a second s = Looked a.args a.grid a.frame a.mvs second s.geom

pub look_one : (a : Whole) (n m : ℕ) → Accepted a n m → LookedIn a false a.one
look_one a n m ok = record { block = ok.block; grid = ok.grid; size = ok.one; place = ok.place; vectors = ok.vectors }

pub look-two : (a : Whole) (n m : ℕ) → Accepted a n m → a.args.average ≡ true → LookedIn a true a.two
look-two a n m ok e =
    record {
      block = ok.block;
      grid = ok.grid;
      size = yes a.args.average _ e ok.two;
      place = ok.place;
      vectors = yes a.args.average _ e ok.vectors2;
    }
  where
    yes : (t u : Bool) → t ≡ true → also t u ≡ true → u ≡ true
    yes true u e h = h
    yes false u e h = clash e

-- where an accepted call is told to start: the definition's starts and steps
pub told_one : (a : Whole) (n m : ℕ) (r : Judged) → Judgement a n m r → number_of a n m ≡ 0 → r.from ≡ stepping_of a false a.one
told_one a n m r j e = let ok = accepted a n m e in j.from ∙ leads a.args a.grid a.frame a.mvs false a.one.geom (look_one a n m ok)

pub told_two : (a : Whole) (n m : ℕ) (r : Judged) → Judgement a n m r → number_of a n m ≡ 0 → a.args.average ≡ true
    → r.from2 ≡ stepping_of a true a.two
told_two a n m r j e t =
    let ok = accepted a n m e in
    let yes = also_yes a.args a.grid a.frame a.two.geom (get_or a.mvs 1 []) t in
    j.from2 ∙ ap (λ (l : Lead). l.from) (sym yes) ∙ leads a.args a.grid a.frame a.mvs true a.two.geom (look-two a n m ok t)
