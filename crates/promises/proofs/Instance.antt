-- The cutting theorem speaks of calls that exist: an averaged block of two by two samples, its right column predicted before its left one, the
-- three calls lent reference 0 in three partings and reference 1 in two. All of it is computed. Assumes nothing.
use mathlib.Core.Path.{◌≡◌, refl, sym, ◌∙◌}
use mathlib.Core.Bool.{true}
use mathlib.Core.List.{List, [], ◌∷◌}
use Prim.Native.Nat.{ℕ, suc, zero, ◌<◌}
use native.Mathlib.Omega.{arith}
use lib.IntN.{ℤ, pos, negsuc}
use lib.ListN.{length, replicate, length-replicate}
use Rattle.base.specs.Answer.{unless}
use Rattle.base.specs.Number.{between, within}
use Rattle.base.specs.Paint.{fill, paint}
use Rattle.base.specs.Position.{hold, along, place}
use Rattle.base.specs.Vector.{sixteenth}
use Rattle.taps.specs.Filter.{filtered}
use Rattle.taps.specs.Taps.{bilinear, filters, tap}
use Rattle.blocks.specs.Sample.{across, sample, blend}
use Rattle.planes.specs.Plane.{Lent, lent, plane, holds, sized, fits}
use Rattle.samples.specs.Call.{Call, call, ref, from_ref, value, kind, starts, out_fits, number_of, Outcome}
use Rattle.samples.specs.Reach.{SamePlane}
use Rattle.samples.proofs.Accepted.{after_taken}
use Rattle.base.specs.declared.units.Stepping.{Stepping}
use Rattle.promises.specs.Cut.{Part, part, Within, has, count, Tiling, Made, done, next}
use Rattle.promises.proofs.Cutting.{cutting_once}

-- a square plane of n by n samples whose first k rows are the upper band
abbrev square : ℕ → ℕ → List ℕ → List ℕ → Lent
square n k upper lower = lent (record { width = pos n; height = pos n; stride = n; upper_rows = k }) upper lower

abbrev from : ℤ → ℤ → ℤ → Stepping
from x y step =
    record { start_x = sixteenth x; start_y = sixteenth y; step_x = sixteenth step; step_y = sixteenth step }

-- w by h samples by filter 3 at depth 8, averaged, for an output whose rows lie three apart
abbrev ask : ℕ → ℕ → Lent → Stepping → Lent → Stepping → Call
ask w h one s two t =
    call (record { w = w; h = h; filter = 3; depth = 8; average = true }) (ref one s) (ref two t) 3

unfoldable block : Call
block =
    ask 2 2 (square 2 1 (10 ∷ 20 ∷ []) (30 ∷ 40 ∷ [])) (from (pos 8) (pos 0) (pos 16)) (square 1 0 [] (100 ∷ [])) (from (negsuc 7) (pos 0) (pos 32))

unfoldable pub right : Part
right =
    part 0 1
    (ask 1 2 (square 2 2 (10 ∷ 20 ∷ 30 ∷ 40 ∷ []) []) (from (pos 24) (pos 0) (pos 16)) (square 1 1 (100 ∷ []) []) (from (pos 24) (pos 0) (pos 32)))

unfoldable pub left : Part
left =
    part 0 0
    (ask 1 2 (square 2 0 [] (10 ∷ 20 ∷ 30 ∷ 40 ∷ [])) (from (pos 8) (pos 0) (pos 16)) (square 1 1 (100 ∷ []) []) (from (negsuc 7) (pos 0) (pos 32)))

pub before : List ℕ
before = 7 ∷ 8 ∷ 9 ∷ 1 ∷ 2 ∷ 3 ∷ 4 ∷ []

halfway : List ℕ
halfway = 7 ∷ 60 ∷ 9 ∷ 1 ∷ 70 ∷ 3 ∷ 4 ∷ []

pub last : List ℕ
last = 58 ∷ 60 ∷ 9 ∷ 68 ∷ 70 ∷ 3 ∷ 4 ∷ []

-- each call is accepted
record Numbers : Type 0 where
  whole : number_of block 7 8576 ≡ 0
  first : number_of right.call 6 8576 ≡ 0
  second : number_of left.call 7 8576 ≡ 0

numbers : Numbers
unfolding block right left number_of kind starts sized fits out_fits holds between within unless
numbers = record { whole = refl; first = refl; second = refl }

abbrev painted : Call → List ℕ → List ℕ
painted a out = paint out a.stride a.shape.w a.shape.h (value a)

-- and paints
record Samples : Type 0 where
  whole : painted block before ≡ last
  first : painted right.call (8 ∷ 9 ∷ 1 ∷ 2 ∷ 3 ∷ 4 ∷ []) ≡ 60 ∷ 9 ∷ 1 ∷ 70 ∷ 3 ∷ 4 ∷ []
  second : painted left.call halfway ≡ last

samples : Samples
unfolding block right left before halfway last paint fill value from_ref sample across filtered blend place hold along plane tap filters bilinear
samples = record { whole = refl; first = refl; second = refl }

room : List ℕ
room = replicate 8576 0

room_length : length room ≡ 8576
unfolding room
room_length = length-replicate {A = ℕ} 8576 0

-- a call that is accepted with that room, and what it leaves
outcome : (a : Call) (out got : List ℕ) → number_of a (length out) 8576 ≡ 0 → painted a out ≡ got → Outcome a out room 0 got room
outcome a out got e f =
    record {
      number = rw room_length (sym e);
      output = rw room_length (sym (after_taken a out 8576 e ∙ f));
      kept = λ d. refl;
    }

-- the uncut call, and the two calls one after the other
uncut : Outcome block before room 0 last room
unfolding before
uncut = outcome block before last numbers.whole samples.whole

pub made : Made 3 (right ∷ left ∷ []) before last
unfolding right left before halfway
made =
    next {q = right} {out = before} room _ room (outcome right.call _ _ numbers.first samples.first)
    (next {q = left} {out = halfway} room last room (outcome left.call halfway last numbers.second samples.second) done)

-- what holds of 0 holds below 1; what holds of 0 and 1 holds below 2
lone : (P : ℕ → Type 0) → P 0 → (k : ℕ) → k < 1 → P k
lone P a zero lt = a
lone P a (suc k) lt = absurd (omega arith)

pair : (P : ℕ → Type 0) → P 0 → P 1 → (k : ℕ) → k < 2 → P k
pair P a b zero lt = a
pair P a b (suc zero) lt = b
pair P a b (suc (suc k)) lt = absurd (omega arith)

-- the block's planes, however they are parted
same_one : (k : ℕ) (upper lower : List ℕ) → let p = plane (square 2 k upper lower) in
    p 0 0 ≡ 10 → p 0 1 ≡ 20 → p 1 0 ≡ 30 → p 1 1 ≡ 40 → SamePlane (square 2 k upper lower) block.one.lent
unfolding block plane
same_one k upper lower a b c d =
    let p = plane (square 2 k upper lower) in
    let q = plane block.one.lent in
    record {
      width = refl;
      height = refl;
      samples = λ v u vh uw.
          pair (λ (r : ℕ). p r u ≡ q r u)
          (pair (λ (i : ℕ). p 0 i ≡ q 0 i) a b u uw)
          (pair (λ (i : ℕ). p 1 i ≡ q 1 i) c d u uw)
          v vh;
    }

same_two : (k : ℕ) (upper lower : List ℕ) → plane (square 1 k upper lower) 0 0 ≡ 100 → SamePlane (square 1 k upper lower) block.two.lent
unfolding block plane
same_two k upper lower a =
    let p = plane (square 1 k upper lower) in
    let q = plane block.two.lent in
    record {
      width = refl;
      height = refl;
      samples = λ v u vh uw. lone (λ (r : ℕ). p r u ≡ q r u) (lone (λ (i : ℕ). p 0 i ≡ q 0 i) a u uw) v vh;
    }

right_within : Within block right
unfolding block right plane along
right_within =
    record {
      rows = omega arith;
      cols = omega arith;
      stride = refl;
      filter = refl;
      depth = refl;
      average = refl;
      one = record { plane = same_one 2 _ _ refl refl refl refl; from = record { x = refl; y = refl; across = refl; down = refl } };
      two = λ e. record { plane = same_two 1 _ _ refl; from = record { x = refl; y = refl; across = refl; down = refl } };
    }

left_within : Within block left
unfolding block left plane along
left_within =
    record {
      rows = omega arith;
      cols = omega arith;
      stride = refl;
      filter = refl;
      depth = refl;
      average = refl;
      one = record { plane = same_one 0 _ _ refl refl refl refl; from = record { x = refl; y = refl; across = refl; down = refl } };
      two = λ e. record { plane = same_two 1 _ _ refl; from = record { x = refl; y = refl; across = refl; down = refl } };
    }

tiling : Tiling block (right ∷ left ∷ [])
unfolding block right left has count
tiling =
    let n = count (right ∷ left ∷ []) in
    record {
      within = (right_within, (left_within, tt));
      once = λ r c rh cw.
          pair (λ (i : ℕ). n i c ≡ 1) (pair (λ (k : ℕ). n 0 k ≡ 1) refl refl c cw) (pair (λ (k : ℕ). n 1 k ≡ 1) refl refl c cw) r rh;
    }

-- so that whatever calls are made for these rectangles, with whatever rooms, leave what was computed
pub instance : (got : List ℕ) → Made 3 (right ∷ left ∷ []) before got → got ≡ last
unfolding block
instance = cutting_once block before room last room uncut (right ∷ left ∷ []) tiling
