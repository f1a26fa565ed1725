-- A plane in two bands that passed its test: every row is in its band, and a row's samples are the plane's. Assumes nothing.
use mathlib.Core.Path.{◌≡◌, refl, ◌∙◌}
use mathlib.Core.Bool.{Bool, true, false, cond}
use mathlib.Core.List.{List}
use Prim.Native.Nat.{ℕ, ◌+◌, ◌-◌, ◌*◌, ◌<◌, ◌≤◌}
use native.Mathlib.Nat.{mul-le-mul_right}
use native.Mathlib.Omega.{arith}
use borrow.Author.Tests.{ltb-true, leb-true, lt-ltb, le-leb}
use lib.Dec.{leb, ltb}
use lib.IntN.{ℤ, pos, negsuc}
use lib.ListN.{length, get_or, take, drop}
use lib.Seq.{get_or-take, get_or-drop}
use Rattle.base.specs.Answer.{answer}
use Rattle.base.specs.Number.{between}
use Rattle.base.specs.Position.{to_n}
use Rattle.base.proofs.Answered.{unless_zero}
use Rattle.base.proofs.Tests.{clash, and_both, within_both}
use Rattle.planes.specs.Plane.{Lent, plane, above, first_of, row_of, read_rows, width_of, height_of, holds, sized, fits}

-- a row of a band that holds its rows is inside it
pub holds_row : (rows stride w len y : ℕ) → holds rows stride w len ≡ true → y < rows → y * stride + w ≤ len
unfolding holds
holds_row rows stride w len y e h =
    let some : 0 < rows = omega arith in
    let long : (rows - 1) * stride + w ≤ len = leb-true _ _ (simp (lt-ltb 0 rows some) at e) in
    let up : y ≤ rows - 1 = omega arith in
    omega (arith, mul-le-mul_right stride up)

pub holds_long : (rows stride w len : ℕ) → (rows - 1) * stride + w ≤ len → holds rows stride w len ≡ true
unfolding holds
holds_long rows stride w len h = rw (le-leb _ _ h) (either (ltb 0 rows))
  where
    either : (t : Bool) → cond t true true ≡ true
    either true = refl
    either false = refl

-- what the test says
pub record Fit (p : Lent) : Type 0 where
  pub apart : width_of p.geom ≤ p.geom.stride
  pub near : p.geom.stride ≤ 131072
  pub part : p.geom.upper_rows ≤ height_of p.geom
  pub upper : holds p.geom.upper_rows p.geom.stride (width_of p.geom) (length p.upper) ≡ true
  pub lower : holds (height_of p.geom - p.geom.upper_rows) p.geom.stride (width_of p.geom) (length p.lower) ≡ true

pub fits_says : (p : Lent) → fits p ≡ true → Fit p
unfolding fits
fits_says p e =
    let last = and_both _ _ e in
    let third = and_both _ _ last.0 in
    let two = and_both _ _ third.0 in
    let span = within_both (width_of p.geom) 131072 p.geom.stride two.0 in
    record { apart = span.0; near = span.1; part = leb-true _ _ two.1; upper = third.1; lower = last.1 }

part_at : (w k : ℕ) (l : List ℕ) (u : ℕ) → u < w → get_or (take w (drop k l)) u 0 ≡ get_or l (k + u) 0
part_at w k l u h = get_or-take w (drop k l) u 0 h ∙ get_or-drop k l u 0

-- a sample of the band that a test chooses, from the place that it chooses
chosen_at : (t : Bool) (l m : List ℕ) (i j u : ℕ) → get_or (cond t l m) (cond t i j + u) 0 ≡ cond t (get_or l (i + u) 0) (get_or m (j + u) 0)
chosen_at true l m i j u = refl
chosen_at false l m i j u = refl

pub row_at : (p : Lent) (v u : ℕ) → u < width_of p.geom → get_or (row_of p v) u 0 ≡ plane p v u
unfolding row_of plane
row_at p v u h =
    let g = p.geom in
    part_at (width_of g) (first_of g v) (cond (above g v) p.upper p.lower) u h
    ∙ chosen_at (above g v) p.upper p.lower (v * g.stride) ((v - g.upper_rows) * g.stride) u

-- a row read that is accepted
pub read_accepted : (p : Lent) (y : ℕ) → answer (read_rows p y) ≡ 0
    → (y < height_of p.geom) × (fits p ≡ true) × (height_of p.geom ≤ 65536)
unfolding sized between
read_accepted p y e =
    let g = p.geom in
    let first = unless_zero 4 (sized g) _ e in
    let next = unless_zero 5 _ _ first.1 in
    let high = (and_both (between (pos 1) (pos 65536) g.width) (between (pos 1) (pos 65536) g.height) first.0).1 in
    (ltb-true _ _ next.0, (unless_zero 6 _ _ next.1).0, at_most g.height high)
  where
    at_most : (z : ℤ) → between (pos 1) (pos 65536) z ≡ true → to_n z ≤ 65536
    at_most (pos n) h = leb-true n 65536 (and_both (leb 1 n) (leb n 65536) h).1
    at_most (negsuc n) h = clash h
