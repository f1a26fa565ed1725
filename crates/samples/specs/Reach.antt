-- What of a plane a block can read, two lendings of one plane, and a rectangle cut out of a block. Assumes nothing.
use Rattle.std.specs.Prelude.{ℕ, ◌<◌, ◌≡◌, true}
use Rattle.base.specs.Position.{to_n, along}
use Rattle.planes.specs.Plane.{Lent, plane, width_of, height_of}
use Rattle.reach.specs.Rectangle.{In, readable}
use Rattle.reach.specs.declared.reaching.Reach.{Reach}
use Rattle.samples.specs.Call.{Ref, Call}
use Rattle.base.specs.declared.units.Stepping.{Stepping}

-- planes that agree on a rectangle
abbrev pub AgreeOn : Reach → Lent → Lent → Type 0
AgreeOn r one two = (v u : ℕ) → In r v u → plane one v u ≡ plane two v u

-- two planes of one size agree on the rectangle that w by h positions can read
pub record Agree (s : Stepping) (w h : ℕ) (one two : Lent) : Type 0 where
  pub width : width_of one.geom ≡ width_of two.geom
  pub height : height_of one.geom ≡ height_of two.geom
  pub samples : AgreeOn (readable w h (width_of one.geom) (height_of one.geom) s) one two

-- one plane, however its rows are parted into bands
pub record SamePlane (one two : Lent) : Type 0 where
  pub width : width_of one.geom ≡ width_of two.geom
  pub height : height_of one.geom ≡ height_of two.geom
  pub samples : (v u : ℕ) → v < height_of one.geom → u < width_of one.geom → plane one v u ≡ plane two v u

-- t starts r0 rows and c0 columns on in the block that s starts
pub record Moved (s t : Stepping) (r0 c0 : ℕ) : Type 0 where
  pub x : t.start_x.0 ≡ along s.start_x.0 (to_n s.step_x.0) c0
  pub y : t.start_y.0 ≡ along s.start_y.0 (to_n s.step_y.0) r0
  pub across : to_n t.step_x.0 ≡ to_n s.step_x.0
  pub down : to_n t.step_y.0 ≡ to_n s.step_y.0

-- p is a's reference for a rectangle, in bands of its own
pub record Piece (a p : Ref) (r0 c0 : ℕ) : Type 0 where
  pub plane : SamePlane p.lent a.lent
  pub wide : 0 < width_of p.lent.geom
  pub high : 0 < height_of p.lent.geom
  pub from : Moved a.from p.from r0 c0

-- p is the call of a rectangle of a's block, which starts r0 rows and c0 columns on: "anything of list 1 only when averaging"
pub record Rectangle (a p : Call) (r0 c0 : ℕ) : Type 0 where
  pub filter : p.shape.filter ≡ a.shape.filter
  pub depth : p.shape.depth ≡ a.shape.depth
  pub average : p.shape.average ≡ a.shape.average
  pub one : Piece a.one p.one r0 c0
  pub two : a.shape.average ≡ true → Piece a.two p.two r0 c0
