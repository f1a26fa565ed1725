-- `candidates::turned` meets its contract, arm by arm. Assumes nothing.
use mathlib.Core.Path.{◌≡◌, ◌∙◌}
use mathlib.Core.Bool.{beq}
use native.Mathlib.Omega.{arith}
use mir.Syntax.{w32}
use mir.Val.{SFits}
use Rattle.candidates.specs.Offers.{bias_of, turned}
use Rattle.records.proofs.Fit.{back}
use Rattle.candidates.proofs.scan.turned.Goals as goal
use Rattle.candidates.proofs.scan.turned.Goals.{After-bias_of-2}

-- the two biases that are compared
bias-is : (c : After-bias_of-2)
    → let a = c.args in
    let bias = a.ask.sign_bias in
    beq (bias_of bias a.frame) (bias_of bias a.ask.target) ≡ beq c.bias_of.result c.bias_of-2.result
bias-is c =
    let target : SFits w32 c.args.ask.target = record { sfits = omega (arith, c.struct_told-1.given) } in
    rw (c.bias_of.ensures, c.bias_of-2.ensures, back c.ranges.frame, back target)

pub returns-then-bias_of : goal.returns-then-bias_of
unfolding turned
returns-then-bias_of c = rw (bias-is c.before ∙ c.if-bias_of.true)

pub returns-else-bias_of : goal.returns-else-bias_of
unfolding turned
returns-else-bias_of c = rw (bias-is c.before.before ∙ c.if-bias_of.false) c.negated.ensures
