-- `candidates::suits` meets its contract: `==` compares bits. Assumes nothing.
use native.Mathlib.Omega.{arith}
use mir.Syntax.{w32}
use mir.Val.{SFits}
use Rattle.base.proofs.Bits.{eqb-bits}
use Rattle.candidates.specs.Offers.{is_other}
use Rattle.candidates.specs.Scan.{suits}
use Rattle.records.proofs.Fit.{back}
use Rattle.candidates.proofs.scan.suits.Goals as goal

pub returns-then-ask : goal.returns-then-ask
unfolding suits is_other
returns-then-ask c =
    let a = c.args in
    let target : SFits w32 a.ask.target = record { sfits = omega (arith, c.struct_told-1.given) } in
    let frame = c.ranges.frame in
    rw (c.if-ask.true, back frame, eqb-bits w32 a.frame a.ask.target frame target)

pub returns-else-ask : goal.returns-else-ask
unfolding suits
returns-else-ask c =
    let a = c.args in
    let target : SFits w32 a.ask.target = record { sfits = omega (arith, c.struct_told-else-ask-1.given) } in
    let frame = c.ranges.frame in
    rw (c.if-ask.false, eqb-bits w32 a.frame a.ask.target frame target)
