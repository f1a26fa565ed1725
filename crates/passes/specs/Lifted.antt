-- Internal: what the passes compute, on positions lifted by 3,200,000, which is 200,000 columns or rows. No definition that a caller reads
-- cites this file; proofs/Bridge.antt joins it to those that do. Assumes nothing.
use Rattle.std.specs.Prelude.{ℕ, ◌+◌, ◌-◌, ◌*◌, ◌/◌, ◌%◌, ◌≤◌, ◌<◌, min, ◌≡◌, Bool, ◌&&◌, ◌||◌, cond, List, leb, ℤ, get_or, length}
use Rattle.taps.specs.Kernel.{ran, level, mean_of, onward}
use Rattle.copies.specs.Copy.{Rows}
use Rattle.planes.specs.Plane.{Lent, plane, width_of, height_of}

-- the horizontal pass: row i is the lifted row y0 + i, held
unfoldable pub across_from : ℕ → (ℕ → ℕ → ℤ) → Lent → ℕ → ℕ → ℕ → ℕ → ℕ → ℕ
across_from max taps p start step y0 i c =
    level max taps (plane p (min (y0 + i - 200003) (height_of p.geom - 1))) (width_of p.geom - 1) (start + step * c)

-- rows of copies: row i is the lifted row y0 + i, held, and column c the lifted column b + c, held
unfoldable pub copy_from : ℕ → Lent → ℕ → ℕ → ℕ → ℕ → ℕ
copy_from max p b y0 i c =
    min (plane p (min (y0 + i - 200003) (height_of p.geom - 1)) (min (b + c - 200003) (width_of p.geom - 1))) max

-- n lifted columns, or rows, from b on are all among m
unfoldable pub unheld : ℕ → ℕ → ℕ → Bool
unheld b n m = leb 200003 b && leb (b - 200003 + n) m

-- n rows of w samples, from the lifted row y0 and column b on, need no holding, and one of the two bands has all of them
unfoldable pub is_straight : Lent → ℕ → ℕ → ℕ → ℕ → Bool
is_straight p b y0 w n =
    unheld b w (width_of p.geom) && unheld y0 n (height_of p.geom)
    && (leb (y0 - 200003 + n) p.geom.upper_rows || leb p.geom.upper_rows (y0 - 200003))

-- a band has, from place s on, n rows of w samples: those of the lifted columns from b on and the lifted rows from y0 on
pub record Stands (p : Lent) (b y0 w n : ℕ) (band : List ℕ) (s : ℕ) : Type 0 where
  pub inside : Rows n p.geom.stride w s (length band)
  pub is : (i c : ℕ) → i < n → c < w → get_or band (s + i * p.geom.stride + c) 0
      ≡ plane p (min (y0 + i - 200003) (height_of p.geom - 1)) (min (b + c - 200003) (width_of p.geom - 1))

-- the vertical pass over a room whose rows are 64 apart
unfoldable pub down_at : ℕ → (ℕ → ℕ → ℤ) → List ℕ → ℕ → ℕ → ℕ → ℕ → ℕ
down_at max taps room start step r = ran max (taps ((start + step * r) % 16)) room 64 (((start + step * r) / 16 - start / 16) * 64)

-- the same in steps of 16, with the taps of its one phase
unfoldable pub down_even : ℕ → (ℕ → ℤ) → List ℕ → ℕ → ℕ → ℕ
down_even max f room r = ran max f room 64 (r * 64)

-- both passes
unfoldable pub block_at : ℕ → (ℕ → ℕ → ℤ) → Lent → ℕ → ℕ → ℕ → ℕ → ℕ → ℕ → ℕ
block_at max taps p sx stepx sy stepy r c =
    level max taps (λ (v : ℕ). level max taps (plane p v) (width_of p.geom - 1) (sx + stepx * c)) (height_of p.geom - 1) (sy + stepy * r)

-- the same of a rectangle of the output, row by row
unfoldable pub mean_with : List ℕ → ℕ → (ℕ → ℕ → ℕ) → ℕ → ℕ → ℕ
mean_with out stride f r = mean_of out (r * stride) (f r)

-- the same where a mean is asked for, else the results themselves
abbrev pub written : Bool → List ℕ → ℕ → (ℕ → ℕ → ℕ) → ℕ → ℕ → ℕ
written mean out stride f = cond mean (mean_with out stride f) f

-- the rows of a room
unfoldable pub room_at : List ℕ → ℕ → ℕ → ℕ
room_at room r = onward room (r * 64)

-- the first n rows of w numbers of the room, 64 apart, are at most max
pub record HeldRoom (max : ℕ) (room : List ℕ) (n w : ℕ) : Type 0 where
  pub le : (i c : ℕ) → i < n → c < w → get_or room (i * 64 + c) 0 ≤ max

-- n lines of 71 have the held samples of m lifted columns from b on, of the rows from the lifted row y0 on
pub record HeldLines (p : Lent) (b y0 n m : ℕ) (lines : List ℕ) : Type 0 where
  pub is : (i c : ℕ) → i < n → c < m → get_or lines (i * 71 + c) 0
      ≡ plane p (min (y0 + i - 200003) (height_of p.geom - 1)) (min (b + c - 200003) (width_of p.geom - 1))
