-- `shift` meets its contract, arm by arm. Assumes nothing.
use native.Mathlib.Omega.{arith}
use borrow.Author.Tests.{eq-eqb, ne_eqb}
use Rattle.clamping.specs.Clamp.{shift}
use Rattle.clamping.proofs.clamp.shift.Goals as goal

pub returns-then-plane-eq0 : goal.returns-then-plane-eq0
unfolding shift
returns-then-plane-eq0 c = (rw (eq-eqb _ _ c.if-plane-eq0.true), omega arith)

pub returns-then-sub : goal.returns-then-sub
unfolding shift
returns-then-sub c = (rw (ne_eqb _ _ c.if-plane-eq0.false, c.if-sub.true), omega arith)

pub returns-else-sub : goal.returns-else-sub
unfolding shift
returns-else-sub c = (rw (ne_eqb _ _ c.if-plane-eq0.false, c.if-sub.false), omega arith)
