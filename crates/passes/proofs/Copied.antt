-- Rows of copies are the horizontal pass at whole columns in steps of 16: a row of the plane, rows of one band, and the band's length.
-- Assumes nothing.
use mathlib.Core.Path.{◌≡◌, refl, sym, ap, ◌∙◌}
use mathlib.Core.List.{List}
use mathlib.Core.Bool.{Bool, true, false, cond, ◌&&◌, ◌||◌}
use Prim.Native.Nat.{ℕ, ◌+◌, ◌-◌, ◌*◌, ◌/◌, ◌%◌, ◌<◌, ◌≤◌, min}
use native.Mathlib.Nat.{zero-add, add-mul, mul-le-mul, min-le_right}
use native.Mathlib.Omega.{arith}
use borrow.Author.Tests.{leb-true, lt-leb, ltb-true, ltb-false, lt-ltb, le-ltb}
use lib.Dec.{leb, ltb}
use lib.IntN.{ℤ}
use lib.ListN.{length, get_or}
use Rattle.base.proofs.Tests.{and_both}
use Rattle.taps.specs.Taps.{tap}
use Rattle.taps.specs.Kernel.{apart, clipped, held_from, level, ran, ran_rows, seat}
use Rattle.copies.specs.Copy.{Rows, clipped_rows, still}
use Rattle.taps.proofs.Filtered.{filtered_same, filtered_whole}
use Rattle.planes.specs.Plane.{Lent, plane, row_of, width_of, height_of, holds, fits}
use Rattle.passes.specs.Lifted.{across_from, copy_from, unheld, Stands}
use Rattle.planes.proofs.Fitting.{row_at, holds_row, fits_says}

-- a row of the plane as a list
pub row_held : (p : Lent) (v b c : ℕ) → 0 < width_of p.geom
    → held_from (row_of p v) (width_of p.geom - 1) b c ≡ plane p v (min (b + c - 200003) (width_of p.geom - 1))
unfolding held_from
row_held p v b c wide = row_at p v _ (below _ _ wide (min-le_right (b + c - 200003) (width_of p.geom - 1)))
  where
    below : (w y : ℕ) → 0 < w → y ≤ w - 1 → y < w
    below w y h k = omega arith

pub row_still : (max : ℕ) (p : Lent) (v b c : ℕ) → 0 < width_of p.geom
    → still max (row_of p v) (width_of p.geom - 1) b c ≡ min (plane p v (min (b + c - 200003) (width_of p.geom - 1))) max
unfolding still
row_still max p v b c wide = ap (λ (x : ℕ). min x max) (row_held p v b c wide)

-- phase 0 in steps of 16
pub across_copy : (max filter : ℕ) (p : Lent) (start y0 i c : ℕ) → filter < 4 → start % 16 ≡ 0
    → copy_from max p (start / 16 + 3) y0 i c ≡ across_from max (tap filter) p start 16 y0 i c
unfolding across_from copy_from level seat
across_copy max filter p start y0 i c f4 z =
    let phase : (start + 16 * c) % 16 ≡ 0 = omega arith in
    let column : start / 16 + 3 + c ≡ (start + 16 * c) / 16 + 3 = omega arith in
    rw (phase, column) (sym (filtered_whole max filter _ f4))

pub unheld_says : (b n m : ℕ) → unheld b n m ≡ true → (200003 ≤ b) × (b - 200003 + n ≤ m)
unfolding unheld
unheld_says b n m e = let t = and_both _ _ e in (leb-true _ _ t.0, leb-true _ _ t.1)

at_inside : (b n m c : ℕ) → 200003 ≤ b → b - 200003 + n ≤ m → c < n → min (b + c - 200003) (m - 1) ≡ b - 200003 + c
at_inside b n m c h k cn = omega arith

-- the places of a row of a band
place_is : (e d stride i c : ℕ) → (e + i) * stride + (d + c) ≡ e * stride + d + i * stride + c
place_is e d stride i c = omega (arith, add-mul e i stride)

end_is : (e d stride i w W len : ℕ) → (e + i) * stride + W ≤ len → d + w ≤ W → e * stride + d + i * stride + w ≤ len
end_is e d stride i w W len h k = omega (arith, add-mul e i stride)

row-of : (e n k i : ℕ) → e + n ≤ k → i < n → e + i < k
row-of e n k i h ni = omega arith

row_below : (e n k m i : ℕ) → k ≤ e → e + n ≤ m → i < n → e - k + i < m - k
row_below e n k m i h f ni = omega arith

less_add : (e k i : ℕ) → k ≤ e → e + i - k ≡ e - k + i
less_add e k i h = omega arith

not-before : (e k i : ℕ) → k ≤ e → ltb (e + i) k ≡ false
not-before e k i h = le-ltb (e + i) k (omega arith)

or_left : (a b : Bool) → (a || b) ≡ true → b ≡ false → a ≡ true
or_left true b e f = refl
or_left false b e f = sym f ∙ e

pub out-fits : (n stride w len : ℕ) → holds n stride w len ≡ true → Rows n stride w 0 len
out-fits n stride w len h = record { ends = λ i ni. rw zero-add (holds_row n stride w len i h ni) }

-- what both tests of a rectangle say
pub inside : {s t : Bool} (b w x y0 n y : ℕ) → s ≡ unheld b w x → t ≡ unheld y0 n y → (s && t) ≡ true
    → ((200003 ≤ b) × (b - 200003 + w ≤ x)) × ((200003 ≤ y0) × (y0 - 200003 + n ≤ y))
inside {s} {t} b w x y0 n y e f both =
    let each = and_both s t both in
    (unheld_says b w x (sym e ∙ each.0), unheld_says y0 n y (sym f ∙ each.1))

-- a rectangle inside the plane, in one of its bands
module _ (p : Lent) (b y0 w n : ℕ) (all : ((200003 ≤ b) × (b - 200003 + w ≤ width_of p.geom)) × ((200003 ≤ y0) × (y0 - 200003 + n ≤ height_of p.geom)))
    (fit : fits p ≡ true) where
  -- where its rows begin
  pub near : (e : ℕ) → y0 ≤ 400003 → e ≤ y0 - 200003 → e * p.geom.stride ≤ 200000 * 131072
  near e far le = mul-le-mul {n₂ = 200000} {m₂ = 131072} (omega arith) (fits_says p fit).near

  pub in_upper : y0 - 200003 + n ≤ p.geom.upper_rows → Stands p b y0 w n p.upper ((y0 - 200003) * p.geom.stride + (b - 200003))
  unfolding plane
  in_upper h = record {
    inside = record {
      ends = λ i ni.
          end_is (y0 - 200003) (b - 200003) p.geom.stride i w (width_of p.geom) _
          (holds_row _ _ _ _ (y0 - 200003 + i) (fits_says p fit).upper (row-of _ n _ i h ni)) all.0.1;
    };
    is = λ i c ni cw.
        rw (
          at_inside y0 n (height_of p.geom) i all.1.0 all.1.1 ni,
          at_inside b w (width_of p.geom) c all.0.0 all.0.1 cw,
          lt-ltb _ _ (row-of _ n _ i h ni),
          place_is (y0 - 200003) (b - 200003) p.geom.stride i c,
        );
  }

  pub in_lower : p.geom.upper_rows ≤ y0 - 200003
      → Stands p b y0 w n p.lower ((y0 - 200003 - p.geom.upper_rows) * p.geom.stride + (b - 200003))
  unfolding plane
  in_lower h = record {
    inside = record {
      ends = λ i ni.
          end_is (y0 - 200003 - p.geom.upper_rows) (b - 200003) p.geom.stride i w (width_of p.geom) _
          (holds_row _ _ _ _ (y0 - 200003 - p.geom.upper_rows + i) (fits_says p fit).lower (row_below _ n _ _ i h all.1.1 ni)) all.0.1;
    };
    is = λ i c ni cw.
        rw (
          at_inside y0 n (height_of p.geom) i all.1.0 all.1.1 ni,
          at_inside b w (width_of p.geom) c all.0.0 all.0.1 cw,
          not-before _ _ i h,
          less_add _ _ i h,
          place_is (y0 - 200003 - p.geom.upper_rows) (b - 200003) p.geom.stride i c,
        );
  }

pub stands_copy : {p : Lent} {b y0 w n : ℕ} {band : List ℕ} {s : ℕ} (max : ℕ) → Stands p b y0 w n band s
    → (i c : ℕ) → i < n → c < w → clipped_rows max band s p.geom.stride i c ≡ copy_from max p b y0 i c
unfolding clipped_rows clipped copy_from
stands_copy max part i c ni cw = ap (λ (v : ℕ). min v max) (part.is i c ni cw)

-- the band that all the rows stand in, and the first row in it
module _ (max : ℕ) (p : Lent) (b y0 w n : ℕ) (in-x : unheld b w (width_of p.geom) ≡ true) (in-y : unheld y0 n (height_of p.geom) ≡ true)
    (fit : fits p ≡ true) (l : List ℕ) (r : ℕ) (band : l ≡ cond (ltb (y0 - 200003) p.geom.upper_rows) p.upper p.lower)
    (first : r ≡ cond (ltb (y0 - 200003) p.geom.upper_rows) (y0 - 200003) (y0 - 200003 - p.geom.upper_rows))
    (all : (leb (y0 - 200003 + n) p.geom.upper_rows || leb p.geom.upper_rows (y0 - 200003)) ≡ true) where
  none-below : ltb (y0 - 200003) p.geom.upper_rows ≡ true → y0 - 200003 + n ≤ p.geom.upper_rows
  none-below t =
      let e = y0 - 200003 in
      let k = p.geom.upper_rows in
      leb-true (e + n) k (or_left (leb (e + n) k) (leb k e) all (lt-leb k e (ltb-true e k t)))

  band_stands : Stands p b y0 w n l (r * p.geom.stride + (b - 200003))
  band_stands = rw (band, first) (by-test (ltb (y0 - 200003) p.geom.upper_rows) refl)
    where
      both : ((200003 ≤ b) × (b - 200003 + w ≤ width_of p.geom)) × ((200003 ≤ y0) × (y0 - 200003 + n ≤ height_of p.geom))
      both = (unheld_says b w _ in-x, unheld_says y0 n _ in-y)

      by-test : (t : Bool) → ltb (y0 - 200003) p.geom.upper_rows ≡ t
          → Stands p b y0 w n (cond t p.upper p.lower) (cond t (y0 - 200003) (y0 - 200003 - p.geom.upper_rows) * p.geom.stride + (b - 200003))
      by-test true t = in_upper p b y0 w n both fit (none-below t)
      by-test false t = in_lower p b y0 w n both fit (ltb-false _ _ t)

  pub band_fits : Rows n p.geom.stride w (r * p.geom.stride + (b - 200003)) (length l)
  band_fits = band_stands.inside

  -- what it has where the rectangle reads
  pub band_at : (i c : ℕ) → i < n → c < w
      → get_or l (r * p.geom.stride + (b - 200003) + i * p.geom.stride + c) 0
      ≡ plane p (min (y0 + i - 200003) (height_of p.geom - 1)) (min (b + c - 200003) (width_of p.geom - 1))
  band_at = band_stands.is

  pub band_copy : (i c : ℕ) → i < n → c < w
      → clipped_rows max l (r * p.geom.stride + (b - 200003)) p.geom.stride i c ≡ copy_from max p b y0 i c
  unfolding clipped_rows clipped copy_from
  band_copy i c ni cw = ap (λ (v : ℕ). min v max) (band_at i c ni cw)

-- rows of one phase over a list that has what eight taps read are the horizontal pass in steps of 16
pub even_row : (max : ℕ) (taps : ℕ → ℕ → ℤ) (p : Lent) (l : List ℕ) (s line start y0 w n : ℕ)
    → ((i c : ℕ) → i < n → c < w + 7 → get_or l (s + i * line + c) 0
    ≡ plane p (min (y0 + i - 200003) (height_of p.geom - 1)) (min (start / 16 + c - 200003) (width_of p.geom - 1)))
    → (i c : ℕ) → i < n → c < w → ran_rows max (taps (start % 16)) l 1 s line i c ≡ across_from max taps p start 16 y0 i c
unfolding ran_rows ran apart across_from level seat
even_row max taps p l s line start y0 w n same i c ni cw =
    let phase : start % 16 ≡ (start + 16 * c) % 16 = omega arith in
    filtered_same max _ _ _ _
    (λ t t8.
    let place : s + i * line + c + 1 * t ≡ s + i * line + (c + t) = omega arith in
    let column : start / 16 + (c + t) ≡ (start + 16 * c) / 16 + t = omega arith in (
      ap (λ (m : ℕ). taps m t) phase,
      ap (λ (k : ℕ). get_or l k 0) place ∙ same i (c + t) ni (omega arith)
          ∙ ap (λ (k : ℕ). plane p (min (y0 + i - 200003) (height_of p.geom - 1)) (min (k - 200003) (width_of p.geom - 1))) column,
    ))
