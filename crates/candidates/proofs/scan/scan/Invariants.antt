-- `candidates::scan` meets its contract, though it leaves both loops once two are held. Invariant of either loop: the fold of what its
-- remaining places, or lists, offer, from what is held now, is the fold of all of them from what was held at first. Assumes nothing.
use mathlib.Core.Path.{◌≡◌}
use Prim.Native.Nat.{◌-◌}
use Rattle.candidates.specs.Offers.{offers, run}
use Rattle.candidates.specs.Scan.{list_of, place_of}
use Rattle.candidates.proofs.scan.scan.Given as goal

abbrev pub invariant-loop-list : goal.invariant-loop-list
invariant-loop-list l =
    offers l.h (run (list_of l.pairs.frames.now l.pairs.mvs.now l.ask l.i) (2 - l.list) l.list)
    ≡ offers l.initial.h (run (list_of l.pairs.frames.now l.pairs.mvs.now l.ask l.i) 2 0)

abbrev pub invariant-loop-k : goal.invariant-loop-k
invariant-loop-k l =
    offers l.h (run (place_of l.pairs.frames.now l.pairs.mvs.now l.site.geometry l.ask) (8 - l.k) l.k)
    ≡ offers l.initial.h (run (place_of l.pairs.frames.now l.pairs.mvs.now l.site.geometry l.ask) (8 - l.from) l.from)
