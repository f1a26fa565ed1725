-- What tables that are long enough hold: every record of the frame, and every previous one where the previous frame is used. Assumes nothing.
use mathlib.Core.Path.{◌≡◌}
use mathlib.Core.Bool.{Bool, true, cond, ◌&&◌}
use mathlib.Core.List.{[], ◌∷◌}
use Prim.Native.Nat.{ℕ, ◌*◌}
use borrow.Author.Tests.{leb-true}
use lib.Dec.{leb}
use lib.ListN.{get_or, length}
use Rattle.base.proofs.Tests.{and_left, and_right}
use Rattle.records.specs.Tables.{long_enough}
use Rattle.records.specs.Seen.{seen, has_prev, frames_of, mvs_of, is_used}
use Rattle.records.specs.Lent.{cells, Room, PrevRoom}
use Rattle.records.specs.declared.geometry.MvRefGeometry.{MvRefGeometry}
use Rattle.records.specs.declared.tables.LentTables.{LentTables}
use Rattle.records.proofs.Joined.{passed}

module _ (l : LentTables) (g : MvRefGeometry) (e : long_enough (seen l) g (has_prev l) ≡ true) where
  prev : Bool
  prev = leb (2 * cells g) (length (frames_of l.prev)) && leb (4 * cells g) (length (mvs_of l.prev))

  test : (k : ℕ)
      → get_or (leb (cells g) (length l.modes.now) ∷ leb (2 * cells g) (length l.frames.now) ∷ leb (4 * cells g) (length l.mvs.now)
      ∷ leb (16 * cells g) (length l.subs.now) ∷ cond (is_used l.prev) prev true ∷ []) k true ≡ true
  unfolding long_enough prev
  test =
      passed (leb (cells g) (length l.modes.now))
      (leb (2 * cells g) (length l.frames.now) ∷ leb (4 * cells g) (length l.mvs.now) ∷ leb (16 * cells g) (length l.subs.now)
      ∷ cond (is_used l.prev) prev true ∷ []) e

  pub room : Room (cells g) l
  room =
      record {
        modes = leb-true (cells g) (length l.modes.now) (test 0);
        frames = leb-true (2 * cells g) (length l.frames.now) (test 1);
        mvs = leb-true (4 * cells g) (length l.mvs.now) (test 2);
        subs = leb-true (16 * cells g) (length l.subs.now) (test 3);
      }

  pub prev_room : PrevRoom (cells g) l.prev
  unfolding PrevRoom prev
  prev_room p is =
      let both = rw is at (test 4) in
      let frames = leb (2 * cells g) (length p.frames.now) in
      let mvs = leb (4 * cells g) (length p.mvs.now) in
      record {
        frames = leb-true (2 * cells g) (length p.frames.now) (and_left frames mvs both);
        mvs = leb-true (4 * cells g) (length p.mvs.now) (and_right frames mvs both);
      }
