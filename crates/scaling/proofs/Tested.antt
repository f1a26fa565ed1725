-- What a passed test of this crate says of the numbers it was asked of. Assumes nothing.
use mathlib.Core.Path.{◌≡◌}
use mathlib.Core.Bool.{true, false, ◌&&◌}
use Prim.Native.Nat.{ℕ, ◌*◌, ◌≤◌}
use borrow.Author.Tests.{leb-true}
use lib.Dec.{leb}
use lib.IntN.{ℤ, pos, negsuc}
use mir.Syntax.{w32}
use mir.Val.{to_z, of_z}
use Rattle.base.specs.Number.{between}
use Rattle.base.specs.Position.{to_n}
use Rattle.base.proofs.Bd.{Bd, bd, rd}
use Rattle.base.proofs.Tests.{clash, and_right, and_both, and_three, between_pos}
use Rattle.scaling.specs.Scale.{sized, allowed, usable, placed}

-- the sizes of a usable reference, as naturals
pub record Sizes (reference frame : ℕ) : Type 0 where
  pub low : 1 ≤ reference
  pub small : reference ≤ 65536
  pub frame-low : 1 ≤ frame
  pub frame_small : frame ≤ 65536
  pub double : reference ≤ 2 * frame
  pub sixteen : frame ≤ 16 * reference

pub usable_sizes : (reference frame : ℤ) → usable reference frame ≡ true → Sizes (to_n reference) (to_n frame)
unfolding usable sized allowed between
usable_sizes (pos r) (pos f) e =
    let p = and_three (leb 1 r && leb r 65536) (leb 1 f && leb f 65536) (leb r (2 * f) && leb f (16 * r)) e in
    let a = and_both (leb 1 r) (leb r 65536) p.0 in
    let b = and_both (leb 1 f) (leb f 65536) p.1.0 in
    let d = and_both (leb r (2 * f)) (leb f (16 * r)) p.1.1 in
    record {
      low = leb-true 1 r a.0;
      small = leb-true r 65536 a.1;
      frame-low = leb-true 1 f b.0;
      frame_small = leb-true f 65536 b.1;
      double = leb-true r (2 * f) d.0;
      sixteen = leb-true f (16 * r) d.1;
    }
usable_sizes (pos r) (negsuc f) e = clash (and_three (leb 1 r && leb r 65536) false (allowed (pos r) (negsuc f)) e).1.0
usable_sizes (negsuc r) frame e = clash (and_three false (sized frame) (allowed (negsuc r) frame) e).0

pub placed_small : (x : ℤ) → placed x ≡ true → to_n x ≤ 65535
unfolding placed between
placed_small (pos n) e = leb-true n 65535 (and_right (leb 0 n) _ e)
placed_small (negsuc n) e = clash e

sized_bd : (n : ℤ) → sized n ≡ true → Bd 65536 n
unfolding sized
sized_bd n e = bd n (between_pos 1 65536 n e).1

-- so the machine reads both sizes back
pub usable_bd : (reference frame : ℤ) → usable reference frame ≡ true → Bd 65536 reference × Bd 65536 frame
unfolding usable
usable_bd reference frame e =
    let p = and_three (sized reference) (sized frame) (allowed reference frame) e in (sized_bd reference p.0, sized_bd frame p.1.0)

pub usable_reads : (reference frame : ℤ) → usable reference frame ≡ true
    → (to_z w32 (of_z w32 reference) ≡ reference) × (to_z w32 (of_z w32 frame) ≡ frame)
usable_reads reference frame e = let b = usable_bd reference frame e in (rd w32 b.0 tt, rd w32 b.1 tt)
