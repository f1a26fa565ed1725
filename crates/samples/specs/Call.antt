-- A call of block prediction: what it answers and what it leaves behind, for accepted and refused input alike. Document 01, 'Answer numbers'
-- and 'Lent tables'. Its arguments and their samples stand below, in `blocks`. Assumes nothing.
use Rattle.std.specs.Prelude.{ℕ, ◌≡◌, Bool, ◌&&◌, cond, List, [], ◌∷◌, leb, eqb, length}
use Rattle.base.specs.Answer.{Row, row, answer, BLOCK, FILTER, SIZE, START, SHORT}
use Rattle.base.specs.Number.{within}
use Rattle.base.specs.Paint.{paint}
use Rattle.planes.specs.Plane.{holds, sized, fits}
pub use Rattle.blocks.specs.Block.{Ref, ref, Call, call, also}
unfoldable pub use Rattle.blocks.specs.Block.{from_ref, value, kind, starts}

-- the output of n samples, and the room of m: "8,576 numbers: 64 columns by 134 rows"
unfoldable pub out_fits : Call → ℕ → ℕ → Bool
out_fits a n m = within a.shape.w 131072 a.stride && holds a.shape.h a.stride a.shape.w n && leb 8576 m

abbrev pub block_rows : Call → ℕ → ℕ → List Row
block_rows a n m =
    row BLOCK (within 1 64 a.shape.w && within 1 64 a.shape.h)
    ∷ row FILTER (kind a.shape)
    ∷ row SIZE (sized a.one.lent.geom && also a.shape.average (sized a.two.lent.geom))
    ∷ row START (starts a.one.from && also a.shape.average (starts a.two.from))
    ∷ row SHORT (fits a.one.lent && also a.shape.average (fits a.two.lent) && out_fits a n m)
    ∷ []

-- the number given to a call with an output of n samples and a room of m
unfoldable pub number_of : Call → ℕ → ℕ → ℕ
number_of a n m = answer (block_rows a n m)

-- the output after a call: painted with the samples where it is accepted, as it was where it is refused
unfoldable pub after : Call → List ℕ → ℕ → List ℕ
after a out m =
    cond (eqb (number_of a (length out) m) 0) (paint out a.stride a.shape.w a.shape.h (value a)) out

-- what a call may do: the number, the output; the room is open after an accepted call and as it was after a refused one
pub record Outcome (a : Call) (out room : List ℕ) (r : ℕ) (out' room' : List ℕ) : Type 0 where
  pub number : r ≡ number_of a (length out) (length room)
  pub output : out' ≡ after a out (length room)
  pub kept : (number_of a (length out) (length room) ≡ 0 → ⊥) → room' ≡ room
