-- `passes::passes::unheld` meets its contract. Assumes nothing.
use mathlib.Core.Path.{refl}
use native.Mathlib.Omega.{arith}
use borrow.Author.Tests.{lt-leb, le-leb}
use Rattle.passes.specs.Lifted.{unheld}
use Rattle.passes.proofs.passes.unheld.Goals as goal

pub returns-then-b-lt-ORIGIN : goal.returns-then-b-lt-ORIGIN
unfolding unheld
returns-then-b-lt-ORIGIN c = rw (lt-leb 200003 c.args.b (omega arith)) refl

pub returns : goal.returns
unfolding unheld
returns c = rw (le-leb 200003 c.args.b (omega arith)) refl
