-- `lanes::lanes::either` meets its contract: neither number is above the bits of both. Assumes nothing.
use lib.Bits.{or_add_and, and_le_l, and_le_r}
use native.Mathlib.Omega.{arith}
use Rattle.lanes.proofs.lanes.either.Goals as goal

pub returns : goal.returns
returns c =
    let a = c.args in
    (omega (arith, or_add_and a.a a.b, and_le_r a.a a.b), omega (arith, or_add_and a.a a.b, and_le_l a.a a.b))
