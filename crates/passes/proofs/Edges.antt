-- Rows gathered near an edge: lines of held samples, one line more, and what lines give, one or several at a time. Assumes nothing.
use mathlib.Core.Path.{◌≡◌, refl, sym, ap, ◌∙◌}
use mathlib.Core.List.{List}
use mathlib.Core.Logic.{⊎_elim}
use Prim.Native.Nat.{ℕ, zero, suc, ◌+◌, ◌-◌, ◌*◌, ◌/◌, ◌%◌, ◌<◌, ◌≤◌, min}
use native.Mathlib.Nat.{zero-add, add-zero, add-suc, add-mul, add_assoc}
use native.Mathlib.Omega.{arith}
use lib.IntN.{ℤ}
use lib.ListN.{length, get_or}
use Rattle.base.specs.Paint.{fill, paint}
use Rattle.base.proofs.Painted.{fill_same, length-paint, lt_or_ge}
use Rattle.taps.specs.Kernel.{Gathered, held_from, fill_rows, ran_rows}
use Rattle.taps.proofs.Loops.{Painting}
use Rattle.planes.specs.Plane.{Lent, row_of, width_of, height_of}
use Rattle.passes.specs.Lifted.{across_from, HeldLines}
use Rattle.passes.proofs.Copied.{row_held, even_row}

pub lines_turn : {p : Lent} {b y0 j m : ℕ} {l0 l1 : List ℕ} → 0 < width_of p.geom → m ≤ 71 → HeldLines p b y0 j m l0
    → Gathered l0 l1 (j * 71) m (held_from (row_of p (min (y0 + j - 200003) (height_of p.geom - 1))) (width_of p.geom - 1) b)
    → HeldLines p b y0 (j + 1) m l1
lines_turn {p} {b} {y0} {j} {m} {l0} {l1} wide m71 held more = record {
  is = λ i c ij cm.
      ⊎_elim
      (λ lt. more.before (i * 71 + c) (omega arith) ∙ held.is i c lt cm)
      (λ ge. let e : i ≡ j = omega arith in rw e (more.is c cm ∙ row_held p _ b c wide))
      (lt_or_ge i j);
}

-- m rows more
paint_more : (l : List ℕ) (stride w i m : ℕ) (f g : ℕ → ℕ → ℕ) → ((r c : ℕ) → r < m → c < w → g r c ≡ f (i + r) c)
    → fill_rows (paint l stride w i f) (i * stride) stride w m g ≡ paint l stride w (i + m) f
unfolding fill_rows paint
paint_more l stride w i zero f g same = rw (add-zero i) refl
paint_more l stride w i (suc m) f g same =
    let all : List ℕ = paint l stride w (i + m) f in
    ap (λ (x : List ℕ). fill x (i * stride + m * stride) w (g m)) (paint_more l stride w i m f g (λ r c rm cw. same r c (omega arith) cw))
    ∙ fill_same all (i * stride + m * stride) w (g m) (f (i + m)) (λ c cw. same m c (omega arith) cw)
    ∙ ap (λ (k : ℕ). fill all k w (f (i + m))) (sym (add-mul i m stride))
    ∙ sym (ap (λ (k : ℕ). paint l stride w k f) (add-suc i m))

few : (k i n m : ℕ) → i < n → m ≡ min (n - i) k → i + m ≡ min (i + k) n
few k i n m lt e = omega arith

-- up to k rows more of n
pub chunk_turn : {l : List ℕ} {stride w i n : ℕ} {f : ℕ → ℕ → ℕ} {now next : List ℕ} (k m : ℕ) (g : ℕ → ℕ → ℕ) → i < n → m ≡ min (n - i) k
    → Painting l stride w (min i n) f now → next ≡ fill_rows now (i * stride) stride w m g
    → ((r c : ℕ) → r < m → c < w → g r c ≡ f (i + r) c) → Painting l stride w (min (i + k) n) f next
chunk_turn {l} {stride} {w} {i} {n} {f} {now} {next} k m g lt e s written same =
    let first : min i n ≡ i = omega arith in
    let before : now ≡ paint l stride w i f = s.is ∙ ap (λ (k : ℕ). paint l stride w k f) first in
    let is : next ≡ paint l stride w (min (i + k) n) f
    = written ∙ ap (λ (x : List ℕ). fill_rows x (i * stride) stride w m g) before ∙ paint_more l stride w i m f g same
    ∙ ap (λ (k : ℕ). paint l stride w k f) (few k i n m lt e) in
    record { is = is; long = ap length is ∙ length-paint l stride w (min (i + k) n) f }

-- a pass from the lifted row y0 + i on
pub across_on : (max : ℕ) (taps : ℕ → ℕ → ℤ) (p : Lent) (start step y0 i r c : ℕ)
    → across_from max taps p start step (y0 + i) r c ≡ across_from max taps p start step y0 (i + r) c
unfolding across_from
across_on max taps p start step y0 i r c = rw (add_assoc y0 i r) refl

-- the lines of rows y0 + i and on give rows i and on of the pass
pub chunk_is : (max : ℕ) (taps : ℕ → ℕ → ℤ) (p : Lent) (lines : List ℕ) (start y0 i w m : ℕ) → HeldLines p (start / 16) (y0 + i) m (w + 7) lines
    → (r c : ℕ) → r < m → c < w → ran_rows max (taps (start % 16)) lines 1 0 71 r c ≡ across_from max taps p start 16 y0 (i + r) c
chunk_is max taps p lines start y0 i w m held r c rm cw =
    even_row max taps p lines 0 71 start (y0 + i) w m
    (λ k d km dw. ap (λ (j : ℕ). get_or lines (j + d) 0) (zero-add (k * 71)) ∙ held.is k d km dw) r c rm cw
    ∙ across_on max taps p start 16 y0 i r c

-- the line of row y0 + j gives row j of the pass
pub line_is : (max : ℕ) (taps : ℕ → ℕ → ℤ) (p : Lent) (line : List ℕ) (start y0 j w : ℕ) → HeldLines p (start / 16) (y0 + j) 1 (w + 7) line
    → (c : ℕ) → c < w → ran_rows max (taps (start % 16)) line 1 0 71 0 c ≡ across_from max taps p start 16 y0 j c
line_is max taps p line start y0 j w held c cw =
    chunk_is max taps p line start y0 j w 1 held 0 c (omega arith) cw ∙ ap (λ (i : ℕ). across_from max taps p start 16 y0 i c) (add-zero j)
