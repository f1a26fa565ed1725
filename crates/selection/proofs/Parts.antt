-- The vectors of a legal list, and of a legal block, are legal. Assumes nothing.
use mathlib.Core.Path.{◌≡◌, refl}
use mathlib.Core.Bool.{Bool, true, false}
use Prim.Native.Nat.{ℕ, zero, suc, ◌+◌, ◌≤◌, ◌<◌}
use native.Mathlib.Omega.{arith}
use borrow.Author.Tests.{leb-true}
use mir.Val.{bool_byte}
use Rattle.base.specs.Vector.{legal_mv}
use Rattle.base.proofs.Tests.{and_left, and_right, and_four}
use Rattle.selection.specs.BlockMvs.{BlockMvs, mv_at, legal_list, legal_block}
use Rattle.selection.specs.Select.{list_number, own_vector, partner_off, partnered}

-- all four at once
each : (m : BlockMvs) (list : ℕ) → legal_list m list ≡ true
    → (legal_mv (mv_at m list 0) ≡ true) × ((legal_mv (mv_at m list 1) ≡ true) × ((legal_mv (mv_at m list 2) ≡ true) × (legal_mv (mv_at m list 3) ≡ true)))
unfolding legal_list
each m list e = and_four (legal_mv (mv_at m list 0)) (legal_mv (mv_at m list 1)) (legal_mv (mv_at m list 2)) (legal_mv (mv_at m list 3)) e

pub legal_at : (m : BlockMvs) (list : ℕ) → legal_list m list ≡ true → (b : ℕ) → b < 4 → legal_mv (mv_at m list b) ≡ true
legal_at m list e zero h = (each m list e).0
legal_at m list e (suc zero) h = (each m list e).1.0
legal_at m list e (suc (suc zero)) h = (each m list e).1.1.0
legal_at m list e (suc (suc (suc zero))) h = (each m list e).1.1.1
legal_at m list e (suc (suc (suc (suc b)))) h = absurd (omega arith)

pub legal-list : (m : BlockMvs) → legal_block m ≡ true → (second : Bool) → legal_list m (list_number second) ≡ true
unfolding legal_block
legal-list m e true = and_right (legal_list m 0) (legal_list m 1) e
legal-list m e false = and_left (legal_list m 0) (legal_list m 1) e

-- what a conversion of the choice to a number gives
pub list_number-byte : (second : Bool) → bool_byte second ≡ list_number second
list_number-byte true = refl
list_number-byte false = refl

pub list_number_small : (second : Bool) → list_number second < 2
list_number_small true = omega arith
list_number_small false = omega arith

-- a partner that is asked for stands within the block
pub partner_below : (plane size b : ℕ) (sx sy : Bool) → own_vector plane size ≡ false → partner_off sx sy ≤ 2
    → partnered plane size b sx sy ≡ true → b + partner_off sx sy < 4
unfolding partnered
partner_below plane size b sx sy o far e = let h = leb-true b _ (rw o at e) in omega arith
