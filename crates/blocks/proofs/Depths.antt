-- What holds for 8, 10 and 12 holds for a depth that passed its test; the greatest sample of such a depth. Assumes nothing.
use mathlib.Core.Path.{◌≡◌, refl}
use mathlib.Core.Bool.{Bool, true, false, ◌||◌}
use Prim.Native.Nat.{ℕ, ◌-◌, ◌≤◌, ◌^◌}
use native.Mathlib.Omega.{arith}
use borrow.Author.Tests.{eqb-true}
use lib.Dec.{leb, eqb}
use Rattle.base.proofs.Tests.{clash, and_both}
use Rattle.blocks.specs.Block.{kind}
use Rattle.blocks.specs.declared.block.BlockShape.{BlockShape}

known : (P : ℕ → Type 0) (d n : ℕ) → eqb d n ≡ true → P n → P d
known P d n e h = rw (eqb-true d n e) h

of_three : (P : ℕ → Type 0) (d : ℕ) (x y z : Bool) → eqb d 8 ≡ x → eqb d 10 ≡ y → eqb d 12 ≡ z → (x || y || z) ≡ true → P 8 → P 10 → P 12 → P d
of_three P d true y z a b c e p q r = known P d 8 a p
of_three P d false true z a b c e p q r = known P d 10 b q
of_three P d false false true a b c e p q r = known P d 12 c r
of_three P d false false false a b c e p q r = clash e

pub by-depth : (P : ℕ → Type 0) (b : BlockShape) → kind b ≡ true → P 8 → P 10 → P 12 → P b.depth
unfolding kind
by-depth P b e =
    let d = b.depth in
    let one = (and_both (leb b.filter 3) (eqb d 8 || eqb d 10 || eqb d 12) e).1 in
    of_three P d (eqb d 8) (eqb d 10) (eqb d 12) refl refl refl one

pub depth_top : (b : BlockShape) → kind b ≡ true → 2 ^ b.depth - 1 ≤ 4095
depth_top b e = by-depth (λ (d : ℕ). 2 ^ d - 1 ≤ 4095) b e (omega arith) (omega arith) (omega arith)
