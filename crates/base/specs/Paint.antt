-- A lent buffer after a rectangle of it was written: document 01, 'Lent tables'. Assumes nothing.
use Rattle.std.specs.Prelude.{ℕ, zero, suc, ◌+◌, ◌*◌, List, ◌++◌, set, take, drop}

-- l with f c at place from + c, for each c below n
unfoldable pub fill : List ℕ → ℕ → ℕ → (ℕ → ℕ) → List ℕ
fill l from zero f = l
fill l from (suc n) f = set (fill l from n f) (from + n) (f n)

-- l with f r c at place r x stride + c, for each row r below h and column c below w
unfoldable pub paint : List ℕ → ℕ → ℕ → ℕ → (ℕ → ℕ → ℕ) → List ℕ
paint l stride w zero f = l
paint l stride w (suc h) f = fill (paint l stride w h f) (h * stride) w (f h)

-- what g makes of the part of l from place i on, with the rest of l before it
unfoldable pub on_part : ℕ → (List ℕ → List ℕ) → List ℕ → List ℕ
on_part i g l = take i l ++ g (drop i l)
