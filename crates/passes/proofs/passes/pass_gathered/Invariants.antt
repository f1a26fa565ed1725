-- `passes::passes::pass_gathered` meets its contract. The loop keeps up that the first j rows are painted. Assumes nothing.
use Rattle.taps.specs.Taps.{tap}
use Rattle.planes.specs.Seen.{seen}
use Rattle.taps.proofs.Loops.{Painting}
use Rattle.passes.specs.Lifted.{across_from}
use Rattle.passes.proofs.passes.pass_gathered.Given as goal

abbrev pub invariant-loop-j : goal.invariant-loop-j
invariant-loop-j l =
    Painting l.initial.room l.rs l.area.width l.j (across_from l.area.max (tap l.p.filter) (seen l.plane) l.start 16 l.y0) l.room
