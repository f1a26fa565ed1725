-- `candidates::covered` meets its contract, arm by arm. Assumes nothing.
use native.Mathlib.Omega.{arith}
use mir.Syntax.{w32}
use mir.Val.{SFits}
use mathlib.Core.Path.{◌∙◌}
use Rattle.base.proofs.Same.{mv_equal}
use Rattle.base.proofs.Bits.{eqb-bits}
use Rattle.candidates.specs.Scan.{covered}
use Rattle.candidates.proofs.scan.covered.Goals as goal

pub returns-then-ask : goal.returns-then-ask
unfolding covered
returns-then-ask c =
    rw (c.if-ask.true, ← c.mv_at.ensures.is, ← c.mv_at-then-ask.ensures.is) (c.eq.ensures ∙ mv_equal c.mv_at.result c.mv_at-then-ask.result)

pub returns-else-ask : goal.returns-else-ask
unfolding covered
returns-else-ask c =
    let a = c.args in
    let target : SFits w32 a.ask.target = record { sfits = omega (arith, c.struct_told-1.given) } in
    rw (c.if-ask.false, ← c.frame_at.ensures) (eqb-bits w32 c.frame_at.result a.ask.target (record { sfits = c.frame_at.type_inv }) target)
