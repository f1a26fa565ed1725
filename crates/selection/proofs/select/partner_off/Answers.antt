-- `partner_off` meets its contract, arm by arm. Assumes nothing.
use native.Mathlib.Omega.{arith}
use Rattle.selection.specs.Select.{partner_off}
use Rattle.selection.proofs.select.partner_off.Goals as goal

pub returns-in-true-false : goal.returns-in-true-false
unfolding partner_off
returns-in-true-false c = (rw (c.in-true-false.is-0, c.in-true-false.is-1), omega arith)

pub returns-in-false-true : goal.returns-in-false-true
unfolding partner_off
returns-in-false-true c = (rw (c.in-false-true.is-0, c.in-false-true.is-1), omega arith)

pub returns-in_default : goal.returns-in_default
unfolding partner_off
returns-in_default c = (rw (c.in_default.is-0, c.in_default.is-1), omega arith)

pub returns-in_default-2 : goal.returns-in_default-2
unfolding partner_off
returns-in_default-2 c = (rw (c.in_default.is-0, c.in_default.is-1), omega arith)
