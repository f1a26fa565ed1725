-- A block's arguments, the samples that they name, and the tests of the block and of where it starts. Document 01, 'Samples' and 'Answer
-- numbers'. Assumes nothing.
use Rattle.std.specs.Prelude.{ℕ, ◌-◌, ◌^◌, Bool, true, ◌&&◌, ◌||◌, cond, leb, eqb, pos, negsuc}
use Rattle.base.specs.Number.{between}
use Rattle.base.specs.Position.{to_n, along}
use Rattle.taps.specs.Taps.{tap}
use Rattle.planes.specs.Plane.{Lent, plane, width_of, height_of}
use Rattle.blocks.specs.Sample.{sample, blend}
use Rattle.blocks.specs.declared.block.BlockShape.{BlockShape}
use Rattle.base.specs.declared.units.Stepping.{Stepping}

-- a reference: its plane, where the block starts in it and how it steps
pub record Ref : Type 0 where
  pub lent : Lent
  pub from : Stepping

abbrev pub ref : Lent → Stepping → Ref
ref l s = record { lent = l; from = s }

-- the arguments but the output and the working room
pub record Call : Type 0 where
  pub shape : BlockShape
  pub one : Ref
  pub two : Ref
  pub stride : ℕ

abbrev pub call : BlockShape → Ref → Ref → ℕ → Call
call b one two stride = record { shape = b; one = one; two = two; stride = stride }

-- the prediction from one reference at row r and column c of the block
unfoldable pub from_ref : BlockShape → Ref → ℕ → ℕ → ℕ
from_ref b p r c =
    sample (2 ^ b.depth - 1) (tap b.filter) (plane p.lent) (width_of p.lent.geom - 1) (height_of p.lent.geom - 1)
    (along p.from.start_x.0 (to_n p.from.step_x.0) c)
    (along p.from.start_y.0 (to_n p.from.step_y.0) r)

-- the sample at row r and column c of the block
unfoldable pub value : Call → ℕ → ℕ → ℕ
value a r c = blend a.shape.average (from_ref a.shape a.one r c) (from_ref a.shape a.two r c)

-- row 4: "filter above 3, or bit depth not 8, 10 or 12"
unfoldable pub kind : BlockShape → Bool
kind b = leb b.filter 3 && (eqb b.depth 8 || eqb b.depth 10 || eqb b.depth 12)

-- row 6: "a start outside -3,000,000..3,000,000; a step not 1..32"
unfoldable pub starts : Stepping → Bool
starts s =
    between (negsuc 2999999) (pos 3000000) s.start_x.0 && between (negsuc 2999999) (pos 3000000) s.start_y.0
    && between (pos 1) (pos 32) s.step_x.0 && between (pos 1) (pos 32) s.step_y.0

-- a test of list 1: "anything of list 1 only when averaging"
abbrev pub also : Bool → Bool → Bool
also average t = cond average t true
