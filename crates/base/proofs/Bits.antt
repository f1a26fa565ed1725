-- `==` of two signed numbers compares their bits: that is equality of the numbers, at any width that both fit. Assumes nothing.
use mathlib.Core.Path.{◌≡◌, refl, sym, ◌∙◌}
use mathlib.Core.Bool.{Bool, true, false}
use Prim.Native.Nat.{ℕ, suc, ◌^◌, ◌<◌, ◌-◌}
use native.Mathlib.Omega.{arith}
use borrow.Author.Tests.{eq-eqb, ne_eqb, eqb-true, eqb-false}
use lib.Dec.{eqb}
use lib.IntN.{ℤ, pos, negsuc}
use mir.Syntax.{Width}
use mir.Val.{SFits, of_z, bits}
use mir.ValLaws.{pow-bits}
use Rattle.base.specs.Number.{equal}

-- of two negative numbers, as their distances from the width's power
from-top : (m a b : ℕ) → a < m → b < m → (t : Bool) → eqb a b ≡ t → eqb (m - suc a) (m - suc b) ≡ t
from-top m a b ha hb true e = let f : a ≡ b = eqb-true a b e in eq-eqb (m - suc a) (m - suc b) (omega arith)
from-top m a b ha hb false e = ne_eqb (m - suc a) (m - suc b) (λ (f : m - suc a ≡ m - suc b). eqb-false a b e (omega arith))

pub eqb-bits : (w : Width) (x y : ℤ) → SFits w x → SFits w y → eqb (of_z w x) (of_z w y) ≡ equal x y
eqb-bits w (pos a) (pos b) fx fy = refl
eqb-bits w (pos a) (negsuc b) fx fy =
    let e = pow-bits w in ne_eqb a (2 ^ bits w - suc b) (λ (f : a ≡ 2 ^ bits w - suc b). omega (arith, fx.sfits, fy.sfits))
eqb-bits w (negsuc a) (pos b) fx fy =
    let e = pow-bits w in ne_eqb (2 ^ bits w - suc a) b (λ (f : 2 ^ bits w - suc a ≡ b). omega (arith, fx.sfits, fy.sfits))
eqb-bits w (negsuc a) (negsuc b) fx fy =
    let e = pow-bits w in
    from-top (2 ^ bits w) a b (omega (arith, fx.sfits)) (omega (arith, fy.sfits)) (eqb a b) refl

-- a branch that the machine took, or did not, by such a test
pub equal_yes : (w : Width) (x y : ℤ) → SFits w x → SFits w y → of_z w x ≡ of_z w y → equal x y ≡ true
equal_yes w x y fx fy e = sym (eqb-bits w x y fx fy) ∙ eq-eqb (of_z w x) (of_z w y) e

pub equal_no : (w : Width) (x y : ℤ) → SFits w x → SFits w y → (of_z w x ≡ of_z w y → ⊥) → equal x y ≡ false
equal_no w x y fx fy e = sym (eqb-bits w x y fx fy) ∙ ne_eqb (of_z w x) (of_z w y) e
