-- What `Held::default()` gives: none held. Assumes nothing.
use mathlib.Core.Path.{◌≡◌}
use Prim.Native.Nat.{ℕ}
use lib.IntN.{ℤ, pos}
use Rattle.base.specs.Vector.{mv}
use Rattle.candidates.specs.Offers.{none}
use Rattle.candidates.specs.declared.held.Held.{Held}

parts : (n : ℕ) (a b c d : ℤ) → n ≡ 0 → a ≡ pos 0 → b ≡ pos 0 → c ≡ pos 0 → d ≡ pos 0
    → ◌≡◌ {A = Held} (record { count = n; first = mv a b; second = mv c d }) none
parts n a b c d e0 e1 e2 e3 e4 = rw (e0, e1, e2, e3, e4)

pub none_is : (h : Held)
    → (h.count ≡ 0) × (((h.first.row.0 ≡ pos 0) × (h.first.col.0 ≡ pos 0)) × ((h.second.row.0 ≡ pos 0) × (h.second.col.0 ≡ pos 0)))
    → h ≡ none
none_is h e = parts h.count h.first.row.0 h.first.col.0 h.second.row.0 h.second.col.0 e.0 e.1.0.0 e.1.0.1 e.1.1.0 e.1.1.1
