-- What each row of the table says of an accepted call, and what a call gives whose tests pass. Assumes nothing.
use mathlib.Core.Path.{◌≡◌, sym}
use Rattle.std.proofs.Common.{Err}
use mathlib.Core.Bool.{true, ◌&&◌}
use Prim.Native.Nat.{ℕ, ◌≤◌}
use lib.IntN.{ℤ, pos}
use Rattle.base.specs.Answer.{unless, answer}
use Rattle.base.specs.Number.{between, within}
use Rattle.base.specs.Position.{to_n}
use Rattle.base.proofs.Answered.{unless_zero}
use Rattle.base.proofs.Tests.{and_both, within_both}
use Rattle.blocks.specs.Block.{starts}
use Rattle.base.specs.declared.units.Stepping.{Stepping}
use Rattle.blocks.proofs.Facts.{from_one}
use Rattle.base.specs.Refused.{number}
use Rattle.base.specs.declared.refusal.Refusal.{Refusal}
use Rattle.base.proofs.Numbered.{not_zero}
use Rattle.reach.specs.Rectangle.{reach_rows, readable, reached, block_reach}

pub record Accepted (n m : ℕ) (x y : ℤ) (s : Stepping) : Type 0 where
  pub w : (1 ≤ n) × (n ≤ 64)
  pub h : (1 ≤ m) × (m ≤ 64)
  pub width : 1 ≤ to_n x
  pub height : 1 ≤ to_n y
  pub from : starts s ≡ true

pub accepted : (w h : ℕ) (width height : ℤ) (s : Stepping) → answer (reach_rows w h width height s) ≡ 0 → Accepted w h width height s
accepted w h width height s e =
    let r1 = unless_zero 0 _ _ e in
    let r5 = unless_zero 4 _ _ r1.1 in
    let r6 = unless_zero 5 _ _ r5.1 in
    let block = and_both (within 1 64 w) (within 1 64 h) r1.0 in
    let size = and_both (between (pos 1) (pos 65536) width) (between (pos 1) (pos 65536) height) r5.0 in
    record {
      w = within_both 1 64 w block.0;
      h = within_both 1 64 h block.1;
      width = (from_one 65536 width size.0).0;
      height = (from_one 65536 height size.1).0;
      from = r6.0;
    }

-- a call whose tests pass gives the rectangle
pub told : (w h : ℕ) (width height : ℤ) (s : Stepping) → (within 1 64 w && within 1 64 h) ≡ true
    → (between (pos 1) (pos 65536) width && between (pos 1) (pos 65536) height) ≡ true → starts s ≡ true
    → block_reach w h width height s ≡ readable w h (to_n width) (to_n height) s
unfolding block_reach unless
told w h width height s block size from = rw (block, size, from)

-- and a call that is refused by a row gives that row's number
pub refused : (w h : ℕ) (width height : ℤ) (s : Stepping) (r : Refusal) → number r ≡ answer (reach_rows w h width height s)
    → reached (Err r) ≡ block_reach w h width height s
unfolding block_reach
refused w h width height s r e = rw (sym e, not_zero r)
