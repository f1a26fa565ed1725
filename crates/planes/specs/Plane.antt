-- A plane lent in two bands: document 01, 'Lent tables'. Assumes nothing.
use Rattle.std.specs.Prelude.{ℕ, ◌+◌, ◌-◌, ◌*◌, ◌≡◌, Bool, true, ◌&&◌, cond, List, [], ◌∷◌, leb, ltb, eqb, ℤ, pos, length, get_or, take, drop, Result, Ok, Err}
use Rattle.std.specs.Borrow.{Bor}
use Rattle.base.specs.Answer.{Row, row, answer, SIZE, START, SHORT}
use Rattle.base.specs.Number.{between, within}
use Rattle.base.specs.Position.{to_n}
use Rattle.base.specs.declared.refusal.Refusal.{Refusal}
use Rattle.planes.specs.declared.plane.PlaneGeom.{PlaneGeom}

-- a plane as it is lent: its numbers, "The upper band holds rows 0..k-1, the lower the rest, with one stride for both"
pub record Lent : Type 0 where
  pub geom : PlaneGeom
  pub upper : List ℕ
  pub lower : List ℕ

abbrev pub lent : PlaneGeom → List ℕ → List ℕ → Lent
lent g upper lower = record { geom = g; upper = upper; lower = lower }

-- a plane's numbers, and a plane lent in plain ones
abbrev pub geom : ℤ → ℤ → ℕ → ℕ → PlaneGeom
geom width height stride k = record { width = width; height = height; stride = stride; upper_rows = k }

abbrev pub view : ℕ → ℕ → ℕ → ℕ → List ℕ → List ℕ → Lent
view w h stride k upper lower = lent (geom (pos w) (pos h) stride k) upper lower

abbrev pub width_of : PlaneGeom → ℕ
width_of g = to_n g.width

abbrev pub height_of : PlaneGeom → ℕ
height_of g = to_n g.height

-- the sample at row v and column u: what a prediction sees of the bands
unfoldable pub plane : Lent → ℕ → ℕ → ℕ
plane p v u =
    cond (ltb v p.geom.upper_rows)
    (get_or p.upper (v * p.geom.stride + u) 0)
    (get_or p.lower ((v - p.geom.upper_rows) * p.geom.stride + u) 0)

-- "A band of k rows needs (k-1) x stride + W samples, or none if k = 0"; an output rectangle alike
unfoldable pub holds : ℕ → ℕ → ℕ → ℕ → Bool
holds rows stride w len = cond (ltb 0 rows) (leb ((rows - 1) * stride + w) len) true

-- row 5: a reference plane's width or height 1..65536
unfoldable pub sized : PlaneGeom → Bool
sized g = between (pos 1) (pos 65536) g.width && between (pos 1) (pos 65536) g.height

-- row 7: "a lent buffer too short, a stride too small or above 131,072, or more upper band rows than the plane has"
unfoldable pub fits : Lent → Bool
fits p =
    within (width_of p.geom) 131072 p.geom.stride && leb p.geom.upper_rows (height_of p.geom)
    && holds p.geom.upper_rows p.geom.stride (width_of p.geom) (length p.upper)
    && holds (height_of p.geom - p.geom.upper_rows) p.geom.stride (width_of p.geom) (length p.lower)

-- the row read: rows 5, 6 ("in the row read, a row not 0..H-1") and 7
abbrev pub read_rows : Lent → ℕ → List Row
read_rows p y =
    row SIZE (sized p.geom)
    ∷ row START (ltb y (height_of p.geom))
    ∷ row SHORT (fits p)
    ∷ []

-- which band holds row y, and from which of that band's samples on the row stands there
abbrev pub above : PlaneGeom → ℕ → Bool
above g y = ltb y g.upper_rows

abbrev pub first_of : PlaneGeom → ℕ → ℕ
first_of g y = cond (above g y) (y * g.stride) ((y - g.upper_rows) * g.stride)

-- the samples of row y
unfoldable pub row_of : Lent → ℕ → List ℕ
row_of p y = take (width_of p.geom) (drop (first_of p.geom y) (cond (above p.geom y) p.upper p.lower))

-- where sample i of a lent slice stands in memory, two bytes a sample: the piece of memory and the byte in it
abbrev pub sample_at : Bor (List ℕ) → ℕ → ℕ × ℕ
sample_at band i = (band.ref_ptr.0, i * 2 + band.ref_ptr.1)

-- where the first sample of row y stands
unfoldable pub row_at : PlaneGeom → Bor (List ℕ) → Bor (List ℕ) → ℕ → ℕ × ℕ
row_at g upper lower y = sample_at (cond (above g y) upper lower) (first_of g y)

-- what a row read gives: the number; the row, which "comes back as a part of whichever of the two bands holds it, not a copy"; and where it is
-- refused "an empty part of the upper band". A part is told by where it stands and by its samples
pub record ReadOutcome (g : PlaneGeom) (upper lower : Bor (List ℕ)) (y n : ℕ) (r : Bor (List ℕ)) : Type 0 where
  pub number : n ≡ answer (read_rows (lent g upper.now lower.now) y)
  pub row : r.now ≡ cond (eqb (answer (read_rows (lent g upper.now lower.now) y)) 0) (row_of (lent g upper.now lower.now) y) []
  pub place : r.ref_ptr ≡ cond (eqb (answer (read_rows (lent g upper.now lower.now) y)) 0) (row_at g upper lower y) (sample_at upper 0)

-- the part that stands for a row read's answer: the row, or the empty part of the upper band
abbrev pub row_or : Bor (List ℕ) → Result (Bor (List ℕ)) Refusal → Bor (List ℕ)
row_or upper (Ok r) = r
row_or upper (Err e) = record upper { now = [] }
