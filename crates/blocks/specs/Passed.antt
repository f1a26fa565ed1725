-- Internal: what passed the tests of a call. No definition that a caller reads cites this file. Assumes nothing.
use Rattle.std.specs.Prelude.{ℕ, ◌≤◌, ◌≡◌, true, ◌&&◌}
use Rattle.base.specs.Number.{within}
use Rattle.planes.specs.Plane.{holds, sized, fits}
use Rattle.blocks.specs.Block.{Ref, Call, kind, starts}
use Rattle.blocks.specs.declared.block.BlockShape.{BlockShape}

-- a block and a reference that passed their tests
pub record Legal (b : BlockShape) (p : Ref) : Type 0 where
  pub block : (within 1 64 b.w && within 1 64 b.h) ≡ true
  pub filter : kind b ≡ true
  pub plane : sized p.lent.geom ≡ true
  pub from : starts p.from ≡ true
  pub bands : fits p.lent ≡ true

-- a call that is accepted with an output of n numbers and a room of m
pub record Taken (a : Call) (n m : ℕ) : Type 0 where
  pub one : Legal a.shape a.one
  pub two : a.shape.average ≡ true → Legal a.shape a.two
  pub apart : a.shape.w ≤ a.stride
  pub out : holds a.shape.h a.stride a.shape.w n ≡ true
  pub room : 8576 ≤ m
