-- Internal: the number as the code takes it from the answers of the calls on vectors. No definition that a caller reads cites this file;
-- proofs/Joined.antt joins it to the table. Assumes nothing.
use Rattle.std.specs.Prelude.{ℕ, ◌&&◌}
use Rattle.base.specs.Answer.{unless, BLOCK, GRID, SIZE, START, VECTOR}
use Rattle.base.specs.Number.{within}
use Rattle.judgement.specs.Chain.{Lead, other_than}
use Rattle.judgement.specs.declared.judging.InterPredArgs.{InterPredArgs}

unfoldable pub refusal : InterPredArgs → Lead → ℕ
refusal b l =
    unless BLOCK (other_than BLOCK l.select && within 1 64 b.w && within 1 64 b.h)
    (unless GRID (other_than GRID l.clamp)
    (unless SIZE (other_than SIZE l.scale)
    (unless START (other_than START l.scale)
    (unless VECTOR (other_than VECTOR l.select) 0))))
