-- What the tests that a block passed say of its numbers, and what is painted by one reference and by two. Assumes nothing.
use mathlib.Core.Path.{◌≡◌, ◌∙◌}
use mathlib.Core.Bool.{true, false, ◌&&◌}
use mathlib.Core.List.{List}
use Prim.Native.Nat.{ℕ, ◌-◌, ◌≤◌}
use native.Mathlib.Omega.{arith}
use borrow.Author.Tests.{leb-true}
use lib.Dec.{leb}
use lib.IntN.{ℤ, pos, negsuc, nat_abs}
use lib.ListN.{length}
use Rattle.base.specs.Number as Number
use Rattle.base.specs.Number.{within}
use Rattle.base.specs.Paint.{paint}
use Rattle.base.specs.Position.{to_n}
use Rattle.base.proofs.Painted.{paint_same}
use Rattle.base.proofs.Tests.{clash, and_both, and_four, within_both, between_abs}
use Rattle.planes.specs.Plane.{width_of, height_of, sized}
use Rattle.planes.specs.declared.plane.PlaneGeom.{PlaneGeom}
use Rattle.planes.proofs.Fitting.{holds_row}
use Rattle.passes.specs.Lifted.{mean_with}
use Rattle.passes.proofs.Blocks.{mean_painted}
use Rattle.blocks.specs.Block.{Ref, Call, kind, starts, from_ref, value}
use Rattle.blocks.specs.Passed.{Legal, Taken}
use Rattle.blocks.specs.Sample.{blend}
use Rattle.blocks.specs.declared.block.BlockShape.{BlockShape}
use Rattle.base.specs.declared.units.Stepping.{Stepping}

-- a number in 1..m
pub from_one : (m : ℕ) (z : ℤ) → Number.between (pos 1) (pos m) z ≡ true → (1 ≤ to_n z) × (to_n z ≤ m)
unfolding Number.between
from_one m (pos n) e = let p = and_both (leb 1 n) (leb n m) e in (leb-true 1 n p.0, leb-true n m p.1)
from_one m (negsuc n) e = clash e

-- what the test of a start and steps says
pub record Near (s : Stepping) : Type 0 where
  pub left : nat_abs s.start_x.0 ≤ 3000000
  pub top : nat_abs s.start_y.0 ≤ 3000000
  pub across : to_n s.step_x.0 ≤ 32
  pub down : to_n s.step_y.0 ≤ 32

pub starts_near : (s : Stepping) → starts s ≡ true → Near s
unfolding starts
starts_near s e =
    let t = and_four _ _ _ _ e in
    record {
      left = between_abs 2999999 s.start_x.0 t.0;
      top = between_abs 2999999 s.start_y.0 t.1.0;
      across = (from_one 32 s.step_x.0 t.1.1.0).1;
      down = (from_one 32 s.step_y.0 t.1.1.1).1;
    }

-- what the tests of a block and a reference say
pub record Facts (b : BlockShape) (p : Ref) : Type 0 where
  pub w : (1 ≤ b.w) × (b.w ≤ 64)
  pub h : (1 ≤ b.h) × (b.h ≤ 64)
  pub filter : b.filter ≤ 3
  pub width : 1 ≤ width_of p.lent.geom
  pub height : 1 ≤ height_of p.lent.geom
  pub from : Near p.from

pub size_says : (b : BlockShape) → (within 1 64 b.w && within 1 64 b.h) ≡ true → ((1 ≤ b.w) × (b.w ≤ 64)) × ((1 ≤ b.h) × (b.h ≤ 64))
size_says b e =
    let both = and_both (within 1 64 b.w) (within 1 64 b.h) e in
    (within_both 1 64 b.w both.0, within_both 1 64 b.h both.1)

pub sized_says : (g : PlaneGeom) → sized g ≡ true → (1 ≤ width_of g) × (1 ≤ height_of g)
unfolding sized
sized_says g e =
    let both = and_both (Number.between (pos 1) (pos 65536) g.width) (Number.between (pos 1) (pos 65536) g.height) e in
    ((from_one 65536 g.width both.0).0, (from_one 65536 g.height both.1).0)

pub legal_says : (b : BlockShape) (p : Ref) → Legal b p → Facts b p
unfolding kind
legal_says b p l =
    let block = size_says b l.block in
    let plane = sized_says p.lent.geom l.plane in
    record {
      w = block.0;
      h = block.1;
      filter = leb-true b.filter 3 (and_both _ _ l.filter).0;
      width = plane.0;
      height = plane.1;
      from = starts_near p.from l.from;
    }

-- list 0 alone, where it is not averaged
pub painted_one : (a : Call) (out : List ℕ) → a.shape.average ≡ false
    → paint out a.stride a.shape.w a.shape.h (from_ref a.shape a.one) ≡ paint out a.stride a.shape.w a.shape.h (value a)
unfolding value blend
painted_one a out e = paint_same _ _ _ _ _ _ (λ r c rh cw. rw e)

-- and list 1 on top of it, where it is
pub painted_two : (a : Call) (out : List ℕ) (m : ℕ) → Taken a (length out) m → a.shape.average ≡ true
    → let b = a.shape in
    let first = paint out a.stride b.w b.h (from_ref b a.one) in
    paint first a.stride b.w b.h (mean_with first a.stride (from_ref b a.two)) ≡ paint out a.stride b.w b.h (value a)
unfolding value blend
painted_two a out m t e =
    let b = a.shape in
    let f = legal_says b a.one t.one in
    let fit = holds_row b.h a.stride b.w (length out) (b.h - 1) t.out (omega (arith, f.h)) in
    mean_painted out a.stride b.w b.h _ _ t.apart fit ∙ paint_same _ _ _ _ _ _ (λ r c rh cw. rw e)
