-- `passes::passes::pass_across` meets its contract. The loop keeps up that the first i rows are painted. Assumes nothing.
use Rattle.taps.specs.Taps.{tap}
use Rattle.planes.specs.Seen.{seen}
use Rattle.passes.specs.Lifted.{across_from}
use Rattle.taps.proofs.Loops.{Painting}
use Rattle.passes.proofs.passes.pass_across.Given as goal

abbrev pub invariant-loop-i : goal.invariant-loop-i
invariant-loop-i l =
    Painting l.initial.room l.rs l.area.width l.i (across_from l.area.max (tap l.p.filter) (seen l.plane) l.x.start l.x.step l.y0) l.room
