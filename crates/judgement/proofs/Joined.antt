-- What the code's chain of calls gives, joined to the definition of the whole prediction. Assumes nothing.
use mathlib.Core.Path.{◌≡◌, refl, ap, ◌∙◌}
use mathlib.Core.Bool.{Bool, true, false, ◌&&◌, cond}
use mathlib.Core.List.{List, []}
use Prim.Native.Nat.{ℕ, ◌+◌, ◌/◌, ◌≤◌}
use native.Mathlib.Omega.{arith}
use lib.IntN.{ℤ, pos}
use lib.Dec.{eqb, leb}
use lib.ListN.{get_or}
use borrow.Author.Tests.{le-leb, lt-ltb}
use Rattle.base.specs.Answer.{unless}
use Rattle.base.specs.Number.{between, within}
use Rattle.base.specs.Position.{to_n}
use Rattle.base.proofs.Tests.{clash, and_both, and_three, and_four}
use Rattle.base.specs.declared.units.Mv.{Mv}
use Rattle.vectors.specs.BlockMvs.{BlockMvs, legal_list, legal_block}
use Rattle.vectors.specs.Select.{select_mv}
use Rattle.vectors.specs.Clamp.{clamp_mv, on_axis}
use Rattle.vectors.specs.Scale.{scale_mv, usable, placed}
use Rattle.scaling.proofs.Tested.{usable_sizes}
use Rattle.planes.specs.Plane.{lent, sized, fits}
use Rattle.blocks.specs.Block as Block
use Rattle.blocks.specs.Block.{also}
use Rattle.vectors.specs.declared.inter_mv.BlockGrid.{BlockGrid}
use Rattle.judgement.specs.Whole.{Whole, extent, plane_geom, plane_of, allowed_ref, dest_fits, block_ok, number_of}
use Rattle.judgement.specs.Chain as Chain
use Rattle.judgement.specs.Chain.{Lead, lead, lead_also, lead_one, lead_two, lends, other_than, refusal}
use Rattle.judgement.specs.declared.judging.InterPredArgs.{InterPredArgs}
use Rattle.judgement.specs.declared.judging.FrameGeom.{FrameGeom}
use Rattle.judgement.specs.declared.judging.RefGeom.{RefGeom}

-- a choice whose test passes
taken : {A : Type 0} (t : Bool) (x y : A) → t ≡ true → x ≡ cond t x y
taken true x y e = refl
taken false x y e = clash e

module _ (b : InterPredArgs) (g : BlockGrid) (f : FrameGeom) (s : RefGeom) (l : List Mv) where
  pub also_yes : b.average ≡ true → lead b g f s l ≡ lead_also b g f s l
  unfolding lead_also
  also_yes e = taken b.average _ _ e

-- ---- the number

-- which of a call's answers a number is, where the rows before it passed
other_first : (r v : Bool) → other_than 1 (unless 1 r (unless 9 v 0)) ≡ r
unfolding other_than unless
other_first true true = refl
other_first true false = refl
other_first false v = refl

other_ninth : (r v : Bool) → r ≡ true → other_than 9 (unless 1 r (unless 9 v 0)) ≡ v
unfolding other_than unless
other_ninth true true e = refl
other_ninth true false e = refl
other_ninth false v e = clash e

other_second : (r g v : Bool) → r ≡ true → other_than 2 (unless 1 r (unless 2 g (unless 9 v 0))) ≡ g
unfolding other_than unless
other_second true true true e = refl
other_second true true false e = refl
other_second true false v e = refl
other_second false g v e = clash e

other_fifth : (r u p v : Bool) → r ≡ true → other_than 5 (unless 1 r (unless 5 u (unless 6 p (unless 9 v 0)))) ≡ u
unfolding other_than unless
other_fifth true true true true e = refl
other_fifth true true true false e = refl
other_fifth true true false v e = refl
other_fifth true false p v e = refl
other_fifth false u p v e = clash e

other_sixth : (r u p v : Bool) → r ≡ true → u ≡ true → other_than 6 (unless 1 r (unless 5 u (unless 6 p (unless 9 v 0)))) ≡ p
unfolding other_than unless
other_sixth true true true true e f = refl
other_sixth true true true false e f = refl
other_sixth true true false v e f = refl
other_sixth true false p v e f = clash f
other_sixth false u p v e f = clash e

-- two tables whose tests agree where the rows before them passed
pub same_number : (t1 t2 t4 t5 t6 t7 t9 s1 s2 s5 s6 s7 s9 : Bool) → t1 ≡ s1 → (s1 ≡ true → t2 ≡ s2) → (s1 ≡ true → t5 ≡ s5)
    → (s1 ≡ true → s5 ≡ true → t6 ≡ s6) → (s5 ≡ true → t7 ≡ s7) → (s1 ≡ true → t9 ≡ s9)
    → unless 1 t1 (unless 2 t2 (unless 4 t4 (unless 5 t5 (unless 6 t6 (unless 7 t7 (unless 9 t9 0))))))
    ≡ unless 1 s1 (unless 2 s2 (unless 4 t4 (unless 5 s5 (unless 6 s6 (unless 7 s7 (unless 9 s9 0))))))
unfolding unless
same_number t1 t2 t4 t5 t6 t7 t9 false s2 s5 s6 s7 s9 e1 e2 e5 e6 e7 e9 = rw e1
same_number t1 t2 t4 t5 t6 t7 t9 true s2 false s6 s7 s9 e1 e2 e5 e6 e7 e9 = rw (e1, e2 refl, e5 refl)
same_number t1 t2 t4 t5 t6 t7 t9 true s2 true s6 s7 s9 e1 e2 e5 e6 e7 e9 = rw (e1, e2 refl, e5 refl, e6 refl refl, e7 refl, e9 refl)

-- ---- a reference's plane

-- one side of a usable reference's plane is 1..65536
side : (plane : ℕ) (sub : Bool) (reference frame : ℤ) → usable reference frame ≡ true
    → (1 ≤ extent plane sub reference) × (extent plane sub reference ≤ 65536)
unfolding extent
side plane sub reference frame e = let s = usable_sizes reference frame e in by_tests (eqb plane 0) sub
  where
    by_tests : (t u : Bool) → let n = to_n reference in
        (1 ≤ cond t n (cond u ((n + 1) / 2) n)) × (cond t n (cond u ((n + 1) / 2) n) ≤ 65536)
    by_tests true u = let s = usable_sizes reference frame e in (s.low, s.small)
    by_tests false true = let s = usable_sizes reference frame e in (omega arith, omega arith)
    by_tests false false = let s = usable_sizes reference frame e in (s.low, s.small)

from_one : (n m : ℕ) → 1 ≤ n → n ≤ m → between (pos 1) (pos m) (pos n) ≡ true
unfolding between
from_one n m a b = rw (le-leb 1 n a, le-leb n m b)

-- so its size passes, and then the row read asks what block prediction asks
pub ref_sized : (b : InterPredArgs) (f : FrameGeom) (g : RefGeom) → allowed_ref f g ≡ true → sized (plane_geom b f g) ≡ true
unfolding allowed_ref sized
ref_sized b f g e =
    let t = and_both (usable g.frame_width f.width) (usable g.frame_height f.height) e in
    let x = side b.plane f.subsampling_x g.frame_width f.width t.0 in
    let y = side b.plane f.subsampling_y g.frame_height f.height t.1 in
    rw (from_one _ 65536 x.0 x.1, from_one _ 65536 y.0 y.1)

passed : (t : Bool) → eqb (unless 7 t 0) 0 ≡ t
unfolding unless
passed true = refl
passed false = refl

pub lends_is : (b : InterPredArgs) (f : FrameGeom) (g : RefGeom) (upper lower : List ℕ) → allowed_ref f g ≡ true
    → lends (lent (plane_geom b f g) upper lower) ≡ fits (lent (plane_geom b f g) upper lower)
unfolding lends unless allowed_ref
lends_is b f g upper lower e =
    let t = and_both (usable g.frame_width f.width) (usable g.frame_height f.height) e in
    let y = side b.plane f.subsampling_y g.frame_height f.height t.1 in
    rw (ref_sized b f g e, lt-ltb 0 (extent b.plane f.subsampling_y g.frame_height) y.0) (passed (fits (lent (plane_geom b f g) upper lower)))

-- ---- the two tables

-- what is asked only when averaging
also_same : (t u x y : Bool) → also t u ≡ true → (u ≡ true → x ≡ y) → also t x ≡ also t y
also_same true u x y e h = h e
also_same false u x y e h = refl

scale_also : (t : Bool) (x y : Lead) → y.scale ≡ 0 → other_than 5 (cond t x y).scale ≡ also t (other_than 5 x.scale)
unfolding other_than
scale_also true x y e = refl
scale_also false x y e = rw e

select_also : (t : Bool) (x y : Lead) → y.select ≡ 0 → other_than 9 (cond t x y).select ≡ also t (other_than 9 x.select)
unfolding other_than
select_also true x y e = refl
select_also false x y e = rw e

and_same : {t u s v : Bool} → t ≡ s → u ≡ v → (t && u) ≡ (s && v)
and_same e f = rw (e, f)

both_same : (t : Bool) → (t && t) ≡ t
both_same true = refl
both_same false = refl

-- one list's calls: their answers, told by the rows of the table
module _ (b : InterPredArgs) (g : BlockGrid) (f : FrameGeom) where
  -- what row 1 asks beside the block's size
  first_is : block_ok b g f ≡ true → (leb g.mi_size 12 && leb b.plane 2 ≡ true) × (leb b.plane 2 ≡ true)
  unfolding block_ok
  first_is e =
      let t = and_four (leb g.mi_size 12) (leb b.block 3) (leb b.plane 2) _ e in
      (rw (t.0, t.1.1.0), t.1.1.0)

  pub size_at : (s : RefGeom) (l : List Mv) → block_ok b g f ≡ true → other_than 5 (lead b g f s l).scale ≡ allowed_ref f s
  unfolding lead scale_mv allowed_ref
  size_at s l e = other_fifth _ _ _ _ (first_is e).1

  pub start_at : (s : RefGeom) (l : List Mv) → block_ok b g f ≡ true → allowed_ref f s ≡ true
      → other_than 6 (lead b g f s l).scale ≡ placed b.x && placed b.y
  unfolding lead scale_mv allowed_ref
  start_at s l e u = other_sixth _ _ _ _ (first_is e).1 u

  pub grid_at : (s : RefGeom) (l : List Mv) → block_ok b g f ≡ true
      → other_than 2 (lead b g f s l).clamp ≡ on_axis g.mi_rows g.mi_row && on_axis g.mi_cols g.mi_col
  unfolding lead clamp_mv
  grid_at s l e = other_second _ _ _ (first_is e).0

  pub block_at : (s : RefGeom) (l : List Mv) → other_than 1 (lead b g f s l).select ≡ block_ok b g f
  unfolding lead select_mv block_ok
  block_at s l = other_first _ _

  pub vector_at : (mvs : BlockMvs) (s : RefGeom) (list : ℕ) → block_ok b g f ≡ true → other_than 9 (lead b g f s (get_or mvs list [])).select
      ≡ legal_list mvs list
  unfolding lead select_mv block_ok legal_block legal_list
  vector_at mvs s list e = other_ninth _ _ e ∙ both_same _

module _ (a : Whole) where
  abbrev b : InterPredArgs
  b = a.args

  abbrev g : BlockGrid
  g = a.grid

  abbrev f : FrameGeom
  f = a.frame

  -- what the code asks of the bands, the destination and the room
  abbrev pub lendings : ℕ → ℕ → Bool
  lendings n m = lends (plane_of a a.one) && also b.average (lends (plane_of a a.two)) && dest_fits a.dest n && leb 8576 m

  -- the bands, once the references are allowed
  lent_is : (n m : ℕ) → (allowed_ref f a.one.geom && also b.average (allowed_ref f a.two.geom)) ≡ true
      → lendings n m ≡ (fits (plane_of a a.one) && also b.average (fits (plane_of a a.two)) && dest_fits a.dest n && leb 8576 m)
  lent_is n m e =
      let t = and_both (allowed_ref f a.one.geom) (also b.average (allowed_ref f a.two.geom)) e in
      let one = lends_is b f a.one.geom a.one.upper a.one.lower t.0 in
      let two = also_same b.average _ _ _ t.1 (lends_is b f a.two.geom a.two.upper a.two.lower) in
      rw (one, two)

  size_two : block_ok b g f ≡ true → other_than 5 (lead_two a).scale ≡ also b.average (allowed_ref f a.two.geom)
  unfolding lead_also
  size_two e =
      scale_also b.average _ _ refl ∙ ap (also b.average) (size_at b g f a.two.geom (get_or a.mvs 1 []) e)

  vector_two : block_ok b g f ≡ true → other_than 9 (lead_two a).select ≡ also b.average (legal_list a.mvs 1)
  unfolding lead_also
  vector_two e = select_also b.average _ _ refl ∙ ap (also b.average) (vector_at b g f a.mvs a.two.geom 1 e)

  pub joined : (n m : ℕ) → refusal b (lead_one a) (lead_two a) (lendings n m) ≡ number_of a n m
  unfolding refusal number_of Chain.kind Block.kind
  joined n m =
      let W = within 1 64 b.w in
      let H = within 1 64 b.h in
      let ok : block_ok b g f && W && H ≡ true → block_ok b g f ≡ true = λ e. (and_three (block_ok b g f) W H e).0 in
      let l0 = get_or a.mvs 0 [] in
      same_number _ _ _ _ _ _ _ _ _ _ _ _ _
      (ap (λ (t : Bool). t && W && H) (block_at b g f a.one.geom l0))
      (λ e. grid_at b g f a.one.geom l0 (ok e))
      (λ e. and_same (size_at b g f a.one.geom l0 (ok e)) (size_two (ok e)))
      (λ e u. start_at b g f a.one.geom l0 (ok e) (and_both (allowed_ref f a.one.geom) _ u).0)
      (λ u. lent_is n m u)
      (λ e. and_same (vector_at b g f a.mvs a.one.geom 0 (ok e)) (vector_two (ok e)))
