-- Laws of written buffers: length, what stands inside a written rectangle and elsewhere, functions that agree, painting over, and a call
-- on a part of the buffer. Assumes nothing.
use mathlib.Core.Path.{◌≡◌, refl, sym, ap, ◌∙◌}
use mathlib.Core.Bool.{Bool, true, false}
use mathlib.Core.List.{List, ◌++◌}
use mathlib.Core.Logic.{⊎_elim, ◌⊎◌, inl, inr, ◌≢◌}
use Prim.Native.Nat.{ℕ, zero, suc, ◌+◌, ◌-◌, ◌*◌, ◌≤◌, ◌<◌}
use native.Mathlib.Nat.{suc-mul, mul-le-mul_right, eq-or-lt_of_le, le_of_suc-le-suc, not-suc-le-zero}
use native.Mathlib.Omega.{arith}
use borrow.Author.Tests.{ltb-true, ltb-false}
use lib.Dec.{ltb}
use lib.ListN.{length, get_or, take, drop, length-set, length-append, length-drop, get_or-append}
use lib.Seq.{get_or-set_same, get_or-set_other, ext_get_or, get_or-append-add, length-take-le, get_or-take, get_or-drop}
use Rattle.base.specs.Paint.{fill, paint, on_part}

pub lt_or_ge : (m n : ℕ) → (m < n) ⊎ (n ≤ m)
lt_or_ge m n = by-test (ltb m n) refl
  where
    by-test : (t : Bool) → ltb m n ≡ t → (m < n) ⊎ (n ≤ m)
    by-test true e = inl (ltb-true m n e)
    by-test false e = inr (ltb-false m n e)

-- an index below n + 1 is n or below n
last_or : {k n : ℕ} → k < suc n → (k ≡ n) ⊎ (k < n)
last_or h = eq-or-lt_of_le (le_of_suc-le-suc h)

-- ---- a run

pub length-fill : (l : List ℕ) (from n : ℕ) (f : ℕ → ℕ) → length (fill l from n f) ≡ length l
unfolding fill
length-fill l from zero f = refl
length-fill l from (suc n) f = length-set (fill l from n f) (from + n) (f n) ∙ length-fill l from n f

-- what was written stands there
pub fill_at : (l : List ℕ) (from n : ℕ) (f : ℕ → ℕ) → from + n ≤ length l → (k : ℕ) → k < n → get_or (fill l from n f) (from + k) 0 ≡ f k
unfolding fill
fill_at l from zero f fit k h = absurd (not-suc-le-zero h)
fill_at l from (suc n) f fit k h =
    let before = fill l from n f in
    ⊎_elim
    (λ e. rw e (get_or-set_same before (from + n) (f n) 0 (omega (arith, length-fill l from n f))))
    (λ lt. get_or-set_other before (from + n) (from + k) (f n) 0 (λ e. omega arith) ∙ fill_at l from n f (omega arith) k lt)
    (last_or h)

-- what stands elsewhere stays
pub fill_else : (l : List ℕ) (from n : ℕ) (f : ℕ → ℕ) (j : ℕ) → ((k : ℕ) → k < n → j ≢ from + k) → get_or (fill l from n f) j 0 ≡ get_or l j 0
unfolding fill
fill_else l from zero f j out = refl
fill_else l from (suc n) f j out =
    get_or-set_other (fill l from n f) (from + n) j (f n) 0 (out n (omega arith)) ∙ fill_else l from n f j (λ k h. out k (omega arith))

pub fill_same : (l : List ℕ) (from n : ℕ) (f g : ℕ → ℕ) → ((k : ℕ) → k < n → f k ≡ g k) → fill l from n f ≡ fill l from n g
unfolding fill
fill_same l from zero f g e = refl
fill_same l from (suc n) f g e = rw (fill_same l from n f g (λ k h. e k (omega arith)), e n (omega arith))

-- ---- a rectangle

pub length-paint : (l : List ℕ) (stride w h : ℕ) (f : ℕ → ℕ → ℕ) → length (paint l stride w h f) ≡ length l
unfolding paint
length-paint l stride w zero f = refl
length-paint l stride w (suc h) f = length-fill (paint l stride w h f) (h * stride) w (f h) ∙ length-paint l stride w h f

-- a row of a rectangle that fits n numbers fits them
pub row_fits : (stride w h n r : ℕ) → (h - 1) * stride + w ≤ n → r < h → r * stride + w ≤ n
row_fits stride w h n r fit lt = let up : r ≤ h - 1 = omega arith in omega (arith, mul-le-mul_right stride up)

-- so does a rectangle with a row less
pub less_fits : (stride w h n : ℕ) → (suc h - 1) * stride + w ≤ n → (h - 1) * stride + w ≤ n
less_fits stride w h n fit = let up : h - 1 ≤ suc h - 1 = omega arith in omega (arith, mul-le-mul_right stride up)

pub paint_at : (l : List ℕ) (stride w h : ℕ) (f : ℕ → ℕ → ℕ) → w ≤ stride → (h - 1) * stride + w ≤ length l
    → (r c : ℕ) → r < h → c < w → get_or (paint l stride w h f) (r * stride + c) 0 ≡ f r c
unfolding paint
paint_at l stride w zero f ws fit r c rh cw = absurd (not-suc-le-zero rh)
paint_at l stride w (suc h) f ws fit r c rh cw =
    let above = paint l stride w h f in
    let room : h * stride + w ≤ length above = omega (arith, length-paint l stride w h f, row_fits stride w (suc h) (length l) h fit (omega arith)) in
    ⊎_elim
    (λ e. rw e (fill_at above (h * stride) w (f h) room c cw))
    (λ lt.
    fill_else above (h * stride) w (f h) (r * stride + c) (λ k kw e. omega (arith, suc-mul r stride, mul-le-mul_right stride lt))
    ∙ paint_at l stride w h f ws (less_fits stride w h (length l) fit) r c lt cw)
    (last_or rh)

pub paint_else : (l : List ℕ) (stride w h : ℕ) (f : ℕ → ℕ → ℕ) (j : ℕ) → ((r c : ℕ) → r < h → c < w → j ≢ r * stride + c)
    → get_or (paint l stride w h f) j 0 ≡ get_or l j 0
unfolding paint
paint_else l stride w zero f j out = refl
paint_else l stride w (suc h) f j out =
    fill_else (paint l stride w h f) (h * stride) w (f h) j (λ k kw. out h k (omega arith) kw)
    ∙ paint_else l stride w h f j (λ r c rh cw. out r c (omega arith) cw)

pub paint_same : (l : List ℕ) (stride w h : ℕ) (f g : ℕ → ℕ → ℕ) → ((r c : ℕ) → r < h → c < w → f r c ≡ g r c)
    → paint l stride w h f ≡ paint l stride w h g
unfolding paint
paint_same l stride w zero f g e = refl
paint_same l stride w (suc h) f g e =
    rw (paint_same l stride w h f g (λ r c rh cw. e r c (omega arith) cw))
    (fill_same (paint l stride w h g) (h * stride) w (f h) (g h) (λ c cw. e h c (omega arith) cw))

-- a place stands in a rectangle, or at none of its rows and columns: found row by row, with no division by the stride
pub record Found (stride w h j : ℕ) : Type 0 where
  pub r : ℕ
  pub c : ℕ
  pub rh : r < h
  pub cw : c < w
  pub is : j ≡ r * stride + c

pub find : (stride w h j : ℕ) → Found stride w h j ⊎ ((r c : ℕ) → r < h → c < w → j ≢ r * stride + c)
find stride w zero j = inr (λ r c rh. absurd (not-suc-le-zero rh))
find stride w (suc h) j = ⊎_elim above below (find stride w h j)
  where
    above : Found stride w h j → Found stride w (suc h) j ⊎ ((r c : ℕ) → r < suc h → c < w → j ≢ r * stride + c)
    above b = inl (record { r = b.r; c = b.c; rh = omega arith; cw = b.cw; is = b.is })

    -- in no row above: then in the last one, or in none
    nowhere : ((c : ℕ) → c < w → j ≢ h * stride + c) → ((r c : ℕ) → r < h → c < w → j ≢ r * stride + c)
        → (r c : ℕ) → r < suc h → c < w → j ≢ r * stride + c
    nowhere last out r c rh cw =
        ⊎_elim (λ e p. last c cw (omega (arith, ap (λ (k : ℕ). k * stride) e))) (λ lt. out r c lt cw) (last_or rh)

    below : ((r c : ℕ) → r < h → c < w → j ≢ r * stride + c) → Found stride w (suc h) j ⊎ ((r c : ℕ) → r < suc h → c < w → j ≢ r * stride + c)
    below out =
        ⊎_elim
        (λ lt. inr (nowhere (λ c cw e. omega arith) out))
        (λ ge. ⊎_elim
        (λ lt. inl (record { r = h; c = j - h * stride; rh = omega arith; cw = omega arith; is = omega arith }))
        (λ past. inr (nowhere (λ c cw e. omega arith) out))
        (lt_or_ge j (h * stride + w)))
        (lt_or_ge j (h * stride))

-- what was painted before does not show through
pub paint_over : (l : List ℕ) (stride w h : ℕ) (f g : ℕ → ℕ → ℕ) → w ≤ stride → (h - 1) * stride + w ≤ length l
    → paint (paint l stride w h f) stride w h g ≡ paint l stride w h g
paint_over l stride w h f g ws fit =
    let under = paint l stride w h f in
    ext_get_or 0 (paint under stride w h g) (paint l stride w h g)
    (length-paint under stride w h g ∙ length-paint l stride w h f ∙ sym (length-paint l stride w h g))
    (λ j lt. ⊎_elim
    (λ b. rw b.is
    (paint_at under stride w h g ws (omega (arith, length-paint l stride w h f)) b.r b.c b.rh b.cw
    ∙ sym (paint_at l stride w h g ws fit b.r b.c b.rh b.cw)))
    (λ out. paint_else under stride w h g j out ∙ paint_else l stride w h f j out ∙ sym (paint_else l stride w h g j out))
    (find stride w h j))

-- ---- a part of the buffer, from place i on

module _ (out : List ℕ) (i stride w h : ℕ) (f : ℕ → ℕ → ℕ) (inside : i ≤ length out) where
  part : List ℕ
  part = paint (drop i out) stride w h f

  pub length_part : length (on_part i (λ (l : List ℕ). paint l stride w h f) out) ≡ length out
  unfolding on_part part
  length_part =
      omega (arith, length-append (take i out) part, length-take-le i out inside, length-paint (drop i out) stride w h f, length-drop i out)

  pub part_at : w ≤ stride → (h - 1) * stride + w ≤ length out - i → (r c : ℕ) → r < h → c < w
      → get_or (on_part i (λ (l : List ℕ). paint l stride w h f) out) (i + (r * stride + c)) 0 ≡ f r c
  unfolding on_part part
  part_at ws fit r c rh cw =
      ap (λ (j : ℕ). get_or (take i out ++ part) (j + (r * stride + c)) 0) (sym (length-take-le i out inside))
      ∙ get_or-append-add (take i out) part (r * stride + c) 0
      ∙ paint_at (drop i out) stride w h f ws (omega (arith, length-drop i out)) r c rh cw

  pub part_else : (j : ℕ) → ((r c : ℕ) → r < h → c < w → j ≢ i + (r * stride + c))
      → get_or (on_part i (λ (l : List ℕ). paint l stride w h f) out) j 0 ≡ get_or out j 0
  unfolding on_part part
  part_else j away =
      ⊎_elim
      (λ lt. get_or-append (take i out) part 0 j (omega (arith, length-take-le i out inside)) ∙ get_or-take i out j 0 lt)
      (λ ge.
      let k : ℕ = j - i in
      let e : j ≡ length (take i out) + k = omega (arith, length-take-le i out inside) in
      let back : i + k ≡ j = omega arith in
      ap (λ (m : ℕ). get_or (take i out ++ part) m 0) e
      ∙ get_or-append-add (take i out) part k 0
      ∙ paint_else (drop i out) stride w h f k (λ r c rh cw q. away r c rh cw (omega arith))
      ∙ get_or-drop i out k 0
      ∙ ap (λ (m : ℕ). get_or out m 0) back)
      (lt_or_ge j i)
