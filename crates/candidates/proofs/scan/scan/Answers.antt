-- `candidates::scan` meets its contract, though it leaves both loops once two are held. Invariant of either loop: the fold of what its
-- remaining places, or lists, offer, from what is held now, is the fold of all of them from what was held at first. Assumes nothing.
use mathlib.Core.Path.{◌≡◌, sym, ◌∙◌}
use mathlib.Core.List.{List}
use Prim.Native.Nat.{ℕ}
use native.Mathlib.Omega.{arith}
use lib.IntN.{ℤ}
use Rattle.std.specs.Prelude.{Some, None}
use Rattle.records.specs.Tables.{spot}
use Rattle.candidates.specs.Offers.{offers, run}
use Rattle.candidates.specs.Scan.{list_of, place_of}
use Rattle.records.specs.declared.geometry.MvRefGeometry.{MvRefGeometry}
use Rattle.candidates.specs.declared.held.Held.{Held}
use Rattle.candidates.specs.declared.scan.Ask.{Ask}
use Rattle.candidates.proofs.Folds.{next, left, done}
use Rattle.records.proofs.Grid.{spot_in}
use Rattle.candidates.proofs.scan.scan.Goals as goal
use Rattle.candidates.proofs.scan.scan.Goals.{in-Some+else-loop-list-test, in_default}

-- what a place offers
nowhere : (frames mvs : List ℤ) (g : MvRefGeometry) (ask : Ask) (k : ℕ) (h : Held) → spot g k ≡ None → h ≡ offers h (place_of frames mvs g ask k)
unfolding place_of offers
nowhere frames mvs g ask k h e = rw e

somewhere : (frames mvs : List ℤ) (g : MvRefGeometry) (ask : Ask) (k i : ℕ) (h now : Held) → spot g k ≡ Some i
    → now ≡ offers h (run (list_of frames mvs ask i) 2 0) → now ≡ offers h (place_of frames mvs g ask k)
unfolding place_of
somewhere frames mvs g ask k i h now e lists = rw e lists

pub one_list-h-requires : goal.one_list-h-requires
one_list-h-requires c =
    let below = spot_in c.args.site.geometry c.loop-k.k c.in-Some.i c.args.site.grid (sym c.in-Some.ensures) in
    record { room = omega arith; list = omega arith }

pub loop-list-preserved : goal.loop-list-preserved
loop-list-preserved c =
    next (list_of c.args.pairs.frames.now c.args.pairs.mvs.now c.args.ask c.in-Some.i) 2 c.loop-list.h c.one_list-h.result _ c.loop-list.list
    (omega arith) c.one_list-h.ensures c.loop-list.invariant

pub returns-then-h-eq2 : goal.returns-then-h-eq2
returns-then-h-eq2 c =
    let a = c.args in
    let two = c.if-h-eq2.true in
    let list =
    left (list_of a.pairs.frames.now a.pairs.mvs.now a.ask c.in-Some.i) 2 c.loop-list.h c.one_list-h.result _ c.loop-list.list (omega arith)
    c.one_list-h.ensures c.loop-list.invariant two in
    left (place_of a.pairs.frames.now a.pairs.mvs.now a.site.geometry a.ask) 8 c.loop-k.h c.one_list-h.result _ c.loop-k.k c.loop-k-test.true
    (somewhere a.pairs.frames.now a.pairs.mvs.now a.site.geometry a.ask c.loop-k.k c.in-Some.i c.loop-k.h c.one_list-h.result (sym c.in-Some.ensures) list)
    c.loop-k.invariant two

pub loop-k-preserved : goal.loop-k-preserved
loop-k-preserved c =
    let a = c.args in
    next (place_of a.pairs.frames.now a.pairs.mvs.now a.site.geometry a.ask) 8 c.loop-k.h c.match-spot.h _ c.loop-k.k c.loop-k-test.true
    (elim c.match-spot.branch [
      | in-Some+else-loop-list-test w ↦ somewhere a.pairs.frames.now a.pairs.mvs.now a.site.geometry a.ask c.loop-k.k w.in-Some.i c.loop-k.h c.match-spot.h
          (sym w.in-Some.ensures)
          (w.h-is ∙ done (list_of a.pairs.frames.now a.pairs.mvs.now a.ask w.in-Some.i) 2 w.loop-list.h _ w.loop-list.list w.loop-list-test.false
          w.loop-list.invariant)
      | in_default w ↦ w.h-is ∙ nowhere a.pairs.frames.now a.pairs.mvs.now a.site.geometry a.ask c.loop-k.k c.loop-k.h (sym w.in_default.ensures)
    ])
    c.loop-k.invariant

pub returns : goal.returns
returns c =
    let a = c.args in
    done (place_of a.pairs.frames.now a.pairs.mvs.now a.site.geometry a.ask) 8 c.loop-k.h _ c.loop-k.k c.loop-k-test.false c.loop-k.invariant
