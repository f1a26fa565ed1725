-- Calls that differ in nothing but samples which no block of theirs can read: document 02, Req 11. Assumes nothing.
use Rattle.std.specs.Prelude.{◌≡◌, Bool, true, false, length}
use Rattle.planes.specs.Plane.{width_of, height_of}
use Rattle.blocks.specs.declared.block.BlockShape.{BlockShape}
use Rattle.reach.specs.Rectangle.{readable, block_reach}
use Rattle.reach.specs.declared.reaching.Reach.{Reach}
use Rattle.samples.specs.Call.{Ref, Call}
use Rattle.samples.specs.Reach.{AgreeOn}
use Rattle.prediction.specs.Predict.{Source, Whole, extent, plane_of, shape_of, stepping_of}
use Rattle.reach_inter.specs.InterReach.{readable_by, inter_reach}

-- ---- block prediction

-- two references of one block: "two references of equal size, with equal band rows and lengths", one stride, and the block started alike in both
pub record Alike (p q : Ref) : Type 0 where
  pub geom : p.lent.geom ≡ q.lent.geom
  pub upper : length p.lent.upper ≡ length q.lent.upper
  pub lower : length p.lent.lower ≡ length q.lent.lower
  pub from : p.from ≡ q.from

-- "All other arguments and the output being equal": of list 1 nothing is asked where it is not looked at
pub record AlikeCalls (a b : Call) : Type 0 where
  pub shape : a.shape ≡ b.shape
  pub stride : a.stride ≡ b.stride
  pub one : Alike a.one b.one
  pub two : a.shape.average ≡ true → Alike a.two b.two

-- the same of references that are lent in whatever bands and with whatever stride: of one size, and the block started alike in both
pub record SameSize (p q : Ref) : Type 0 where
  pub width : p.lent.geom.width ≡ q.lent.geom.width
  pub height : p.lent.geom.height ≡ q.lent.geom.height
  pub from : p.from ≡ q.from

pub record SameCalls (a b : Call) : Type 0 where
  pub shape : a.shape ≡ b.shape
  pub stride : a.stride ≡ b.stride
  pub one : SameSize a.one b.one
  pub two : a.shape.average ≡ true → SameSize a.two b.two

-- the references agree on a rectangle of each
pub record Agreeing (of : BlockShape → Ref → Reach) (a b : Call) : Type 0 where
  pub one : AgreeOn (of a.shape a.one) a.one.lent b.one.lent
  pub two : a.shape.average ≡ true → AgreeOn (of a.shape a.two) a.two.lent b.two.lent

-- the document's: "columns floor(start_x / 16) - 3 to floor((start_x + step_x x (w - 1)) / 16) + 4 and on the rows worked out alike", held
abbrev pub reach_of : BlockShape → Ref → Reach
reach_of b p = readable b.w b.h (width_of p.lent.geom) (height_of p.lent.geom) p.from

-- that which the call `block_reach` tells
abbrev pub told_of : BlockShape → Ref → Reach
told_of b p = block_reach b.w b.h p.lent.geom.width p.lent.geom.height p.from

-- ---- the whole prediction

-- the arguments but the references
pub record SameArgs (a b : Whole) : Type 0 where
  pub args : a.args ≡ b.args
  pub grid : a.grid ≡ b.grid
  pub frame : a.frame ≡ b.frame
  pub mvs : a.mvs ≡ b.mvs
  pub dest : a.dest ≡ b.dest

-- two references lent alike, as `Alike` has it
pub record AlikeSources (s t : Source) : Type 0 where
  pub geom : s.geom ≡ t.geom
  pub upper : length s.upper ≡ length t.upper
  pub lower : length s.lower ≡ length t.lower

pub record AlikeWholes (a b : Whole) : Type 0 where
  pub same : SameArgs a b
  pub one : AlikeSources a.one b.one
  pub two : a.args.average ≡ true → AlikeSources a.two b.two

-- and two of one size, lent in whatever bands and with whatever stride
pub record SizedAlike (s t : Source) : Type 0 where
  pub width : s.geom.frame_width ≡ t.geom.frame_width
  pub height : s.geom.frame_height ≡ t.geom.frame_height

pub record SameWholes (a b : Whole) : Type 0 where
  pub same : SameArgs a b
  pub one : SizedAlike a.one b.one
  pub two : a.args.average ≡ true → SizedAlike a.two b.two

-- the references of both lists agree on a rectangle of each plane
pub record AgreeingWholes (of : Whole → Bool → Source → Reach) (a b : Whole) : Type 0 where
  pub one : AgreeOn (of a false a.one) (plane_of a a.one) (plane_of b b.one)
  pub two : a.args.average ≡ true → AgreeOn (of a true a.two) (plane_of a a.two) (plane_of b b.two)

-- the rectangle of the whole block, from where its list leads
abbrev pub whole_reach : Whole → Bool → Source → Reach
whole_reach a second s = readable_by a.args a.grid a.frame a.mvs second s.geom.frame_width s.geom.frame_height

-- that of the part inside the destination, which is all that is written
abbrev pub inside_reach : Whole → Bool → Source → Reach
inside_reach a second s =
    readable (shape_of a).w (shape_of a).h
    (extent a.args.plane a.frame.subsampling_x s.geom.frame_width)
    (extent a.args.plane a.frame.subsampling_y s.geom.frame_height)
    (stepping_of a second s)

-- that which the call `inter_reach` tells
abbrev pub whole_told : Whole → Bool → Source → Reach
whole_told a second s = inter_reach a.args a.grid a.frame a.mvs second s.geom.frame_width s.geom.frame_height
