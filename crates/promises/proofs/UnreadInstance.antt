-- UNREAD speaks of calls that exist: a block of one sample at the first of eight in a row. It is accepted, it can read five of them, and the other three
-- may be any numbers. Assumes nothing.
use mathlib.Core.Path.{◌≡◌, refl}
use mathlib.Core.Bool.{false}
use mathlib.Core.List.{List, [], ◌∷◌}
use Prim.Native.Nat.{ℕ, zero, suc, ◌≤◌}
use native.Mathlib.Omega.{arith}
use lib.IntN.{pos}
use Rattle.base.specs.Answer.{unless}
use Rattle.base.specs.Number.{between, within}
use Rattle.base.specs.Position.{hold, along}
use Rattle.base.specs.Vector.{sixteenth}
use Rattle.planes.specs.Plane.{Lent, lent, plane, holds, sized, fits}
use Rattle.base.specs.declared.units.Stepping.{Stepping}
use Rattle.reach.specs.Rectangle.{last_read, readable}
use Rattle.samples.specs.Call.{Call, call, ref, kind, starts, out_fits, number_of, Outcome}
use Rattle.promises.specs.Unread.{Alike, AlikeCalls, Agreeing, reach_of}
use Rattle.promises.proofs.Unread.{unread}

-- a row of eight samples, of which the last three are these
abbrev row : ℕ → ℕ → ℕ → Lent
row x y z =
    lent (record { width = pos 8; height = pos 1; stride = 8; upper_rows = 1 }) (10 ∷ 20 ∷ 30 ∷ 40 ∷ 50 ∷ x ∷ y ∷ z ∷ []) []

abbrev here : Stepping
here =
    record { start_x = sixteenth (pos 0); start_y = sixteenth (pos 0); step_x = sixteenth (pos 16); step_y = sixteenth (pos 16) }

unfoldable pub ask : ℕ → ℕ → ℕ → Call
ask x y z =
    call (record { w = 1; h = 1; filter = 2; depth = 8; average = false }) (ref (row x y z) here) (ref (row x y z) here) 1

pub accepted : (x y z : ℕ) → number_of (ask x y z) 1 8576 ≡ 0
unfolding ask number_of kind starts sized fits out_fits holds between within unless
accepted x y z = refl

alike : (x y z x' y' z' : ℕ) → AlikeCalls (ask x y z) (ask x' y' z')
unfolding ask
alike x y z x' y' z' =
    let same : Alike (ref (row x y z) here) (ref (row x' y' z') here) = record { geom = refl; upper = refl; lower = refl; from = refl } in
    record { shape = refl; stride = refl; one = same; two = λ q. same }

-- the first five columns of the one row
first_five : (x y z x' y' z' v u : ℕ) → v ≤ 0 → u ≤ 4 → plane (row x y z) v u ≡ plane (row x' y' z') v u
unfolding plane
first_five x y z x' y' z' zero zero low near = refl
first_five x y z x' y' z' zero (suc zero) low near = refl
first_five x y z x' y' z' zero (suc (suc zero)) low near = refl
first_five x y z x' y' z' zero (suc (suc (suc zero))) low near = refl
first_five x y z x' y' z' zero (suc (suc (suc (suc zero)))) low near = refl
first_five x y z x' y' z' zero (suc (suc (suc (suc (suc u))))) low near = absurd (omega arith)
first_five x y z x' y' z' (suc v) u low near = absurd (omega arith)

agreeing : (x y z x' y' z' : ℕ) → Agreeing reach_of (ask x y z) (ask x' y' z')
unfolding ask readable last_read hold along
agreeing x y z x' y' z' =
    record {
      one = λ v u i. first_five x y z x' y' z' v u i.bottom i.right;
      two = λ q v u i. first_five x y z x' y' z' v u i.bottom i.right;
    }

-- the theorem's conclusion for them
pub instance : (x y z x' y' z' : ℕ) (out room : List ℕ) (n m : ℕ) (o p v w : List ℕ)
    → Outcome (ask x y z) out room n o v → Outcome (ask x' y' z') out room m p w → (n ≡ m) × (o ≡ p)
instance x y z x' y' z' out room = unread (ask x y z) (ask x' y' z') (alike x y z x' y' z') (agreeing x y z x' y' z') out room room refl
