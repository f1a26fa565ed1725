-- Every place stands at most six rows and columns away, by one computed test over the table of places; so a step from a cell of the
-- frame does not wrap. Assumes nothing.
use mathlib.Core.Path.{◌≡◌, refl}
use mathlib.Core.Bool.{Bool}
use mathlib.Core.List.{List, []}
use Prim.Native.Nat.{ℕ, ◌≤◌}
use borrow.Author.Tests.{leb-true}
use lib.Dec.{leb}
use lib.IntN.{ℤ, pos, nat_abs, ◌+ℤ◌}
use lib.ListN.{get_or}
use mir.Syntax.{w32}
use mir.Val.{SFits, to_z, of_z}
use Rattle.base.proofs.Bd.{bd, ◌⊕◌, fits, rd}
use Rattle.places.specs.Places.{places, offset}
use Rattle.base.proofs.Anywhere.{all, anywhere}

near : ℤ → Bool
near z = leb (nat_abs z) 6

pub step_small : (size k part : ℕ) → nat_abs (offset size k part) ≤ 6
unfolding near offset places
step_small size k part =
    let sizes = anywhere (λ (b : List (List ℤ)). all (λ (p : List ℤ). all near (pos 0) p) [] b) [] places refl size in
    let row = anywhere (λ (p : List ℤ). all near (pos 0) p) [] (get_or places size []) sizes k in
    leb-true (nat_abs (offset size k part)) 6 (anywhere near (pos 0) (get_or (get_or places size []) k []) row part)

-- a row or column x moved by a step d, which the code has as r
module _ (x r d : ℤ) (few : nat_abs x ≤ 8192) (small : nat_abs d ≤ 6) (is : r ≡ d) where
  pub moves : SFits w32 (to_z w32 (of_z w32 x) +ℤ to_z w32 (of_z w32 r))
  moves = rw (is, rd w32 (bd x few) tt, rd w32 (bd d small) tt) (fits (bd x few ⊕ bd d small) tt)

  pub moved : to_z w32 (of_z w32 (to_z w32 (of_z w32 x) +ℤ to_z w32 (of_z w32 r))) ≡ x +ℤ d
  moved = rw (is, rd w32 (bd x few) tt, rd w32 (bd d small) tt) (rd w32 (bd x few ⊕ bd d small) tt)
