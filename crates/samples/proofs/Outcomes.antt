-- A contract of this crate permits one outcome; what the room holds after an accepted block is the listed exception. And the number given
-- is the lowest that applies. Assumes nothing.
use mathlib.Core.Path.{◌≡◌, refl, sym, ◌∙◌}
use mathlib.Core.List.{List}
use Prim.Native.Nat.{ℕ}
use Rattle.base.specs.Answer.{Lowest}
use Rattle.base.proofs.Answered.{lowest}
use denote.Ref.{Bor}
use Rattle.planes.specs.Plane.{Lent, read_rows, ReadOutcome}
use Rattle.planes.specs.declared.plane.PlaneGeom.{PlaneGeom}
use Rattle.samples.specs.Call.{Call, block_rows, Outcome}

-- any two permitted outcomes of a row read are equal: the number, the samples, and where they stand
pub read_once : (g : PlaneGeom) (upper lower : Bor (List ℕ)) (y n m : ℕ) (r s : Bor (List ℕ)) → ReadOutcome g upper lower y n r
    → ReadOutcome g upper lower y m s → (n ≡ m) × (r.now ≡ s.now) × (r.ref_ptr ≡ s.ref_ptr)
read_once g upper lower y n m r s a b = (a.number ∙ sym b.number, a.row ∙ sym b.row, a.place ∙ sym b.place)

-- any two permitted outcomes of a block prediction are equal, the room excepted
pub predict_once : (a : Call) (out room : List ℕ) (n m : ℕ) (o p v w : List ℕ) → Outcome a out room n o v → Outcome a out room m p w
    → (n ≡ m) × (o ≡ p)
predict_once a out room n m o p v w x y = (cc, cc)

-- and where the call is refused the room too
pub predict_refused : (a : Call) (out room : List ℕ) (n m : ℕ) (o p v w : List ℕ) → Outcome a out room n o v → Outcome a out room m p w
    → (n ≡ 0 → ⊥) → v ≡ w
predict_refused a out room n m o p v w x y d = x.kept (λ z. d (x.number ∙ z)) ∙ sym (y.kept (λ z. d (x.number ∙ z)))

-- "Where several apply, the lowest number is given", "A number is given exactly when its row says so"
pub read_lowest : (p : Lent) (y : ℕ) → Lowest (read_rows p y)
read_lowest p y = lowest (read_rows p y) refl

pub predict_lowest : (a : Call) (n m : ℕ) → Lowest (block_rows a n m)
predict_lowest a n m = lowest (block_rows a n m) refl
