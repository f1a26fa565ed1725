-- `candidates::column_of` meets its contract: `==` compares bits. Assumes nothing.
use native.Mathlib.Omega.{arith}
use lib.IntN.{pos}
use mir.Syntax.{w32}
use mir.Val.{SFits}
use Rattle.base.proofs.Bits.{equal_yes, equal_no}
use Rattle.candidates.specs.Scan.{column}
use Rattle.candidates.proofs.sub_block.column_of.Goals as goal

zero-fits : SFits w32 (pos 0)
zero-fits = record { sfits = omega arith }

pub returns-then-offset-eq0 : goal.returns-then-offset-eq0
unfolding column
returns-then-offset-eq0 c = rw (equal_yes w32 c.args.offset (pos 0) c.ranges.offset zero-fits c.if-offset-eq0.true)

pub returns-else-offset-eq0 : goal.returns-else-offset-eq0
unfolding column
returns-else-offset-eq0 c = rw (equal_no w32 c.args.offset (pos 0) c.ranges.offset zero-fits c.if-offset-eq0.false)
