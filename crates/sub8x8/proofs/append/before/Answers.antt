-- `before` meets its contract, arm by arm. Assumes nothing.
use mathlib.Core.Path.{◌∙◌}
use borrow.Author.Tests.{le-leb, lt-leb}
use Rattle.candidates.specs.Offers.{offers}
use Rattle.candidates.proofs.Empty.{none_is}
use Rattle.lists.specs.MvRef.{before}
use Rattle.sub8x8.proofs.append.before.Goals as goal

pub returns-then-block-le2 : goal.returns-then-block-le2
unfolding offers before
returns-then-block-le2 c =
    rw (le-leb c.args.block 2 c.if-block-le2.true) (c.add.ensures ∙ rw (none_is _ c.default-none.ensures))

pub returns : goal.returns
unfolding offers before
returns c =
    rw (lt-leb c.args.block 2 c.if-block-le2.false)
    (c.add-2.ensures
    ∙ rw (c.add-one.ensures, c.add-two.ensures, none_is _ c.default-none.ensures))
