-- `luma_of` meets its contract, arm by arm. Assumes nothing.
use native.Mathlib.Omega.{arith}
use borrow.Author.Tests.{eq-eqb, ne_eqb}
use Rattle.scaling.specs.Scale.{luma_of}
use Rattle.scaling.proofs.scale.luma_of.Goals as goal

pub returns-then-plane-eq0 : goal.returns-then-plane-eq0
unfolding luma_of
returns-then-plane-eq0 c = (rw (eq-eqb _ _ c.if-plane-eq0.true), omega arith)

pub returns-then-sub : goal.returns-then-sub
unfolding luma_of
returns-then-sub c = (rw (ne_eqb _ _ c.if-plane-eq0.false, c.if-sub.true), omega arith)

pub returns-else-sub : goal.returns-else-sub
unfolding luma_of
returns-else-sub c = (rw (ne_eqb _ _ c.if-plane-eq0.false, c.if-sub.false), omega arith)
