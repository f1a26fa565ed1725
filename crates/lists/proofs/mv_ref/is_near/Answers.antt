-- `is_near` meets its contract: below 64 is between -63 and 63. Assumes nothing.
use mathlib.Core.Path.{◌≡◌, refl, sym, ◌∙◌}
use mathlib.Core.Bool.{Bool, true, false, and-true}
use Prim.Native.Nat.{ℕ, suc, ◌≤◌, ◌<◌}
use native.Mathlib.Omega.{arith}
use borrow.Author.Tests.{leb-true, leb-false, lt-ltb, le-ltb}
use lib.Dec.{leb, ltb}
use lib.IntN.{ℤ, pos, negsuc, nat_abs}
use mir.Syntax.{w32}
use mir.Val.{SFits}
use mir.Facts.{to_z-of_z}
use Rattle.base.specs.Number.{between}
use Rattle.lists.proofs.mv_ref.is_near.Goals as goal

-- two tests that say the same
same : (n m a b : ℕ) (t : Bool) → leb n m ≡ t → (n ≤ m → a < b) → (m < n → b ≤ a) → t ≡ ltb a b
same n m a b true e f g = sym (lt-ltb a b (f (leb-true n m e)))
same n m a b false e f g = sym (le-ltb a b (g (leb-false n m e)))

near : (z : ℤ) → between (negsuc 62) (pos 63) z ≡ ltb (nat_abs z) 64
unfolding between
near (pos n) = same n 63 n 64 (leb n 63) refl (λ h. omega arith) (λ h. omega arith)
near (negsuc n) = and-true (leb n 62) ∙ same n 62 (suc n) 64 (leb n 62) refl (λ h. omega arith) (λ h. omega arith)

pub returns : goal.returns
returns c =
    let x = c.args.x.0 in
    let f : SFits w32 x = record { sfits = omega (arith, c.struct_told-1.given) } in
    c.between.ensures ∙ rw (to_z-of_z f) (near x)
