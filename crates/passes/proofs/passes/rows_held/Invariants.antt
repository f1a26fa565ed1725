-- `passes::passes::rows_held` meets its contract. The loop keeps up that the first j rows are painted. Assumes nothing.
use Rattle.planes.specs.Seen.{seen}
use Rattle.passes.specs.Lifted.{copy_from}
use Rattle.taps.proofs.Loops.{Painting}
use Rattle.passes.proofs.passes.rows_held.Given as goal

abbrev pub invariant-loop-j : goal.invariant-loop-j
invariant-loop-j l = Painting l.initial.out l.rs l.area.width l.j (copy_from l.area.max (seen l.plane) l.b l.y0) l.out
