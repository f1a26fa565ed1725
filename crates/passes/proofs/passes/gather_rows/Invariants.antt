-- `passes::passes::gather_rows` meets its contract. The loop keeps up that the first j lines are gathered. Assumes nothing.
use mathlib.Core.Path.{◌≡◌}
use lib.ListN.{length}
use Rattle.planes.specs.Seen.{seen}
use Rattle.passes.specs.Lifted.{HeldLines}
use Rattle.passes.proofs.passes.gather_rows.Given as goal

abbrev pub invariant-loop-j : goal.invariant-loop-j
invariant-loop-j l = HeldLines (seen l.plane) l.b l.y0 l.j l.m l.lines × (length l.lines ≡ length l.initial.lines)
