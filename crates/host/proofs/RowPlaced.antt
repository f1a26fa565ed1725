-- The place that C gets of an accepted row read is where the row stands: so many samples of that band, from that one on. Assumes nothing.
use mathlib.Core.Path.{◌≡◌, refl}
use mathlib.Core.Bool.{Bool, true, false, cond}
use mathlib.Core.List.{List}
use Prim.Native.Nat.{ℕ}
use lib.Dec.{eqb}
use lib.ListN.{take, drop}
use Rattle.base.specs.Answer.{answer}
use Rattle.planes.specs.Plane.{Lent, above, read_rows, row_of}
use Rattle.host.specs.InC.{row_place, row_spot}

-- 0 and 1 say which
zero_one : (t : Bool) (u l : List ℕ) → cond (eqb (cond t 0 1) 0) u l ≡ cond t u l
zero_one true u l = refl
zero_one false u l = refl

pub row_there : (p : Lent) (y : ℕ) → answer (read_rows p y) ≡ 0
    → row_of p y ≡ take (row_place p y).samples (drop (row_place p y).first (cond (eqb (row_place p y).band 0) p.upper p.lower))
unfolding row_of row_place row_spot
row_there p y e = rw (e, zero_one (above p.geom y) p.upper p.lower)
