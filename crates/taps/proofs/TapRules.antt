-- The rules of the 512 taps (document 01, 'Samples'): one test that is computed over the whole table, and what it says of each row.
-- Assumes nothing.
use mathlib.Core.Path.{◌≡◌, refl, ap}
use mathlib.Core.Bool.{Bool, true, false, ◌&&◌, cond}
use mathlib.Core.List.{List, []}
use Prim.Native.Nat.{ℕ, ◌-◌, ◌*◌, ◌<◌}
use native.Mathlib.Omega.{arith}
use lib.Dec.{eqb}
use lib.IntN.{ℤ, pos, negsuc, ◌+ℤ◌}
use lib.ListN.{length, get_or}
use borrow.Author.Tests.{eqb-true, eq-eqb}
use Rattle.base.specs.Number.{between}
use Rattle.base.proofs.Table.{every, entry}
use Rattle.base.proofs.Tests.{and_left, and_right, clash}
use Rattle.taps.specs.Taps.{regular, smooth, sharp, bilinear, filters, tap}

-- the eight taps of a row, summed
abbrev pub row_sum : (ℕ → ℤ) → ℤ
row_sum f = f 0 +ℤ f 1 +ℤ f 2 +ℤ f 3 +ℤ f 4 +ℤ f 5 +ℤ f 6 +ℤ f 7

-- "phase 0 is 128 at t = 3"
abbrev pub whole_tap : ℕ → ℕ
whole_tap t = cond (eqb t 3) 128 0

-- "Filter 3 at phase p is 128 - 8p at t = 3 and 8p at t = 4"
abbrev pub bilinear_tap : ℕ → ℕ → ℕ
bilinear_tap p t = cond (eqb t 3) (128 - 8 * p) (cond (eqb t 4) (8 * p) 0)

-- z is the natural number m
abbrev equals : ℕ → ℤ → Bool
equals m (pos n) = eqb n m
equals m (negsuc n) = false

abbrev tap_right : ℕ → ℕ → ℕ → ℤ → Bool
tap_right f p t z =
    between (negsuc 23) (pos 128) z && cond (eqb p 0) (equals (whole_tap t) z) true && cond (eqb f 3) (equals (bilinear_tap p t) z) true

abbrev row_right : ℕ → ℕ → List ℤ → Bool
row_right f p row = eqb (length row) 8 && equals 128 (row_sum (λ (t : ℕ). get_or row t (pos 0))) && every (tap_right f p) 0 row

abbrev filter_right : ℕ → List (List ℤ) → Bool
filter_right f rows = eqb (length rows) 16 && every (row_right f) 0 rows

-- the whole table
all_right : every filter_right 0 filters ≡ true
unfolding filters regular smooth sharp bilinear between
all_right = refl

equals_is : (m : ℕ) (z : ℤ) → equals m z ≡ true → z ≡ pos m
equals_is m (pos n) e = ap pos (eqb-true n m e)
equals_is m (negsuc n) e = clash e

module _ (f p : ℕ) (f4 : f < 4) (p16 : p < 16) where
  rows : List (List ℤ)
  rows = get_or filters f []

  row : List ℤ
  row = get_or rows p []

  filter-right : filter_right f rows ≡ true
  unfolding rows filters
  filter-right = entry filter_right [] filters all_right f (omega arith)

  row-right : row_right f p row ≡ true
  unfolding row
  row-right =
      let e = filter-right in
      let n : length rows ≡ 16 = eqb-true (length rows) 16 (and_left (eqb (length rows) 16) (every (row_right f) 0 rows) e) in
      entry (row_right f) [] rows (and_right (eqb (length rows) 16) (every (row_right f) 0 rows) e) p (omega arith)

  counted : Bool
  counted = eqb (length row) 8 && equals 128 (row_sum (λ (t : ℕ). get_or row t (pos 0)))

  eight : length row ≡ 8
  unfolding counted
  eight =
      eqb-true (length row) 8
      (and_left (eqb (length row) 8) (equals 128 (row_sum (λ (t : ℕ). get_or row t (pos 0)))) (and_left counted (every (tap_right f p) 0 row) row-right))

  -- "each row of eight sums to 128"
  pub row-sum : row_sum (tap f p) ≡ pos 128
  unfolding counted row rows tap
  row-sum =
      equals_is 128 (row_sum (tap f p))
      (and_right (eqb (length row) 8) (equals 128 (row_sum (tap f p))) (and_left counted (every (tap_right f p) 0 row) row-right))

  module _ (t : ℕ) (t8 : t < 8) where
    tap-right : tap_right f p t (tap f p t) ≡ true
    unfolding counted row rows tap
    tap-right = entry (tap_right f p) (pos 0) row (and_right counted (every (tap_right f p) 0 row) row-right) t (omega (arith, eight))

    ranged : Bool
    ranged = between (negsuc 23) (pos 128) (tap f p t)

    whole : Bool
    whole = cond (eqb p 0) (equals (whole_tap t) (tap f p t)) true

    linear : Bool
    linear = cond (eqb f 3) (equals (bilinear_tap p t) (tap f p t)) true

    pub tap_range : between (negsuc 23) (pos 128) (tap f p t) ≡ true
    unfolding ranged whole linear
    tap_range = and_left ranged whole (and_left (ranged && whole) linear tap-right)

    pub tap_whole : p ≡ 0 → tap f p t ≡ pos (whole_tap t)
    unfolding ranged whole linear
    tap_whole e =
        equals_is (whole_tap t) (tap f p t) (simp (eq-eqb p 0 e) at (and_right ranged whole (and_left (ranged && whole) linear tap-right)))

    pub tap_bilinear : f ≡ 3 → tap f p t ≡ pos (bilinear_tap p t)
    unfolding ranged whole linear
    tap_bilinear e = equals_is (bilinear_tap p t) (tap f p t) (simp (eq-eqb f 3 e) at (and_right (ranged && whole) linear tap-right))
