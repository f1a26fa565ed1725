-- The contract of the whole prediction permits one outcome; what the room holds after an accepted call is the listed exception. And the number
-- given is the lowest that applies. Assumes nothing.
use mathlib.Core.Path.{◌≡◌, refl, sym, ◌∙◌}
use mathlib.Core.List.{List}
use Prim.Native.Nat.{ℕ}
use Rattle.base.specs.Answer.{Lowest}
use Rattle.base.proofs.Answered.{lowest}
use Rattle.prediction.specs.Predict.{Whole, predict_rows, Outcome}

-- any two permitted outcomes of a whole prediction are equal, the room excepted
pub predict_inter_once : (a : Whole) (out room : List ℕ) (n m : ℕ) (o p v w : List ℕ) → Outcome a out room n o v → Outcome a out room m p w
    → (n ≡ m) × (o ≡ p)
predict_inter_once a out room n m o p v w x y = (cc, cc)

-- and where it is refused the room too is as it was
pub predict_inter_refused : (a : Whole) (out room : List ℕ) (n m : ℕ) (o p v w : List ℕ) → Outcome a out room n o v → Outcome a out room m p w
    → (n ≡ 0 → ⊥) → v ≡ w
predict_inter_refused a out room n m o p v w x y d =
    let e = x.kept (λ z. d (x.number ∙ z)) in e ∙ sym (y.kept (λ z. d (x.number ∙ z)))

-- "Where several apply, the lowest number is given", "A number is given exactly when its row says so"
pub predict_inter_lowest : (a : Whole) (n m : ℕ) → Lowest (predict_rows a n m)
predict_inter_lowest a n m = lowest (predict_rows a n m) refl
