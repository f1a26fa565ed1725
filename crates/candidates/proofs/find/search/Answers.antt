-- `candidates::search` meets its contract: its steps are the definition's, one after the other. Assumes nothing.
use mathlib.Core.Path.{◌≡◌, refl, sym, ◌∙◌}
use mathlib.Core.Bool.{true}
use mathlib.Core.List.{[]}
use Prim.Native.Nat.{ℕ}
use native.Mathlib.Omega.{arith}
use Rattle.std.specs.Prelude.{Option, Some, None}
use Rattle.records.specs.Tables.{Tables, tables, grid_ok, spot}
use Rattle.records.specs.Seen.{seen, has_prev}
use Rattle.candidates.specs.Search.{counted, context}
use Rattle.records.specs.Lent.{cells, Room, PairRoom}
use Rattle.candidates.specs.Scan.{ModeAt, SubsAt, context_at, found}
use Rattle.records.specs.declared.geometry.MvRefGeometry.{MvRefGeometry}
use Rattle.records.specs.declared.tables.LentTables.{LentTables}
use Rattle.records.specs.declared.tables.Pairs.{Pairs}
use Rattle.records.proofs.Fit.{back}
use Rattle.records.proofs.Grid.{spot_in}
use Rattle.records.proofs.Rooms.{room, prev_room}
use Rattle.candidates.proofs.Whole.{nearest_is, all_is}
use Rattle.candidates.proofs.find.search.Goals as goal

-- a place counts by the table of modes alone
counted_same : (t : Tables) (s : Option ℕ) → counted (tables t.modes [] [] [] [] []) s ≡ counted t s
unfolding counted
counted_same t None = refl
counted_same t (Some i) = refl

context_is : (t : Tables) (g : MvRefGeometry) (one two : Option ℕ) → one ≡ spot g 0 → two ≡ spot g 1
    → context_at t.modes one two ≡ context t g
unfolding context_at context
context_is t g one two e1 e2 = rw (e1, e2, counted_same t (spot g 0), counted_same t (spot g 1))

module _ (g : MvRefGeometry) (k : ℕ) {l : LentTables} (all : Room (cells g) l) (ok : grid_ok g ≡ true) {s : Option ℕ} (is : s ≡ spot g k) where
  mode_at : ModeAt s l.modes.now
  unfolding ModeAt
  mode_at i e = omega (arith, spot_in g k i ok (sym is ∙ e))

  subs_at : SubsAt s l
  unfolding SubsAt
  subs_at i e = omega (arith, spot_in g k i ok (sym is ∙ e))

pairs_room : (n : ℕ) (l : LentTables) (p : Pairs) → Room n l → p ≡ record { frames = l.frames; mvs = l.mvs } → PairRoom n p
pairs_room n l p all e = rw e (omega arith)

pub context-context-requires : goal.context-context-requires
context-context-requires c =
    let all = room c.args.tables c.args.site.geometry c.requires.long in
    record {
      first_mode = mode_at c.args.site.geometry 0 all c.args.site.grid c.spot-one.ensures;
      second_mode = mode_at c.args.site.geometry 1 all c.args.site.grid c.spot-two.ensures;
    }

pub nearest-step1-requires : goal.nearest-step1-requires
nearest-step1-requires c =
    let all = room c.args.tables c.args.site.geometry c.requires.long in
    record {
      first_room = subs_at c.args.site.geometry 0 all c.args.site.grid c.spot-one.ensures;
      second_room = subs_at c.args.site.geometry 1 all c.args.site.grid c.spot-two.ensures;
      block = rw (back c.ranges.block) c.requires.block;
    }

pub scan-step2-requires : goal.scan-step2-requires
scan-step2-requires c =
    let all = room c.args.tables c.args.site.geometry c.requires.long in
    record {
      from = omega arith;
      room = pairs_room _ c.args.tables c.pairs-pairs.result all c.pairs-pairs.ensures;
    }

pub previous-prev2-requires : goal.previous-prev2-requires
previous-prev2-requires c = prev_room c.args.tables c.args.site.geometry c.requires.long

pub scan-step3-requires : goal.scan-step3-requires
scan-step3-requires c =
    let all = room c.args.tables c.args.site.geometry c.requires.long in
    record {
      from = omega arith;
      room = pairs_room _ c.args.tables c.pairs-pairs.result all c.pairs-pairs.ensures;
    }

pub previous-prev3-requires : goal.previous-prev3-requires
previous-prev3-requires c = prev_room c.args.tables c.args.site.geometry c.requires.long

pub returns : goal.returns
unfolding found
returns c =
    let a = c.args in
    let target = back c.ranges.target in
    let one = c.spot-one in
    let two = c.spot-two in
    let first = nearest_is (seen a.tables) a.site.geometry a.target a.sign_bias a.site.near one.result two.result a.block
    a.site.places one.ensures two.ensures in
    let held = all_is (seen a.tables) a.site.geometry a.target a.block a.sign_bias (has_prev a.tables) c.nearest-step1.result c.scan-step2.result
    c.previous-prev2.result c.scan-step3.result c.previous-prev3.result
    (c.nearest-step1.ensures ∙ rw (target, back c.ranges.block, first))
    (rw (target, c.pairs-pairs.ensures) at c.scan-step2.ensures) (rw target at c.previous-prev2.ensures)
    (rw (target, c.pairs-pairs.ensures) at c.scan-step3.ensures) (rw target at c.previous-prev3.ensures) in
    let counts = context_is (seen a.tables) a.site.geometry one.result two.result one.ensures two.ensures in
    rw (held, c.context-context.ensures ∙ counts)
