-- What a loop that writes a row, or rows of a rectangle, keeps up: nothing written yet, and one turn more. Assumes nothing.
use mathlib.Core.Path.{◌≡◌, refl, ap, ◌∙◌}
use mathlib.Core.List.{List}
use Prim.Native.Nat.{ℕ, zero, suc, ◌+◌, ◌*◌, ◌<◌, ◌≤◌}
use native.Mathlib.Nat.{add-zero, zero-add, zero-mul}
use native.Mathlib.Numerals.{add-one}
use native.Mathlib.Omega.{arith}
use lib.ListN.{length, get_or, set, length-set}
use Rattle.base.specs.Paint.{fill, paint}
use Rattle.base.proofs.Painted.{length-fill, fill_same, paint_at}
use Rattle.taps.specs.Kernel.{fill_rows, eighths, onward}

-- the buffer is the one that was lent, with the first n numbers of f written from place at on
pub record Filling (l : List ℕ) (at n : ℕ) (f : ℕ → ℕ) (now : List ℕ) : Type 0 where
  pub is : now ≡ fill l at n f
  pub long : length now ≡ length l

pub fill_none : (l : List ℕ) (at : ℕ) (f : ℕ → ℕ) → Filling l at 0 f l
unfolding fill
fill_none l at f = record { is = refl; long = refl }

pub fill_turn : {l : List ℕ} {at n : ℕ} {f : ℕ → ℕ} {now : List ℕ} (v : ℕ) → Filling l at n f now → v ≡ f n → Filling l at (n + 1) f (set now (at + n) v)
unfolding fill
fill_turn {l} {at} {n} {f} {now} v s e = record {
  is = rw (s.is, e, add-one);
  long = length-set now (at + n) v ∙ s.long;
}

-- the same with the first n rows of w, each stride on from the one before
pub record FillingRows (l : List ℕ) (at stride w n : ℕ) (f : ℕ → ℕ → ℕ) (now : List ℕ) : Type 0 where
  pub is : now ≡ fill_rows l at stride w n f
  pub long : length now ≡ length l

pub rows_none : (l : List ℕ) (at stride w : ℕ) (f : ℕ → ℕ → ℕ) → FillingRows l at stride w 0 f l
unfolding fill_rows
rows_none l at stride w f = record { is = refl; long = refl }

pub rows_turn : {l : List ℕ} {at stride w n : ℕ} {f : ℕ → ℕ → ℕ} {now next : List ℕ} → FillingRows l at stride w n f now
    → next ≡ fill now (at + n * stride) w (f n) → FillingRows l at stride w (n + 1) f next
unfolding fill_rows
rows_turn {l} {at} {stride} {w} {n} {f} {now} {next} s e = record {
  is = e ∙ rw (s.is, add-one);
  long = ap length e ∙ length-fill now (at + n * stride) w (f n) ∙ s.long;
}

pub rows_same : (l : List ℕ) (at stride w h : ℕ) (f g : ℕ → ℕ → ℕ) → ((r c : ℕ) → r < h → c < w → f r c ≡ g r c)
    → fill_rows l at stride w h f ≡ fill_rows l at stride w h g
unfolding fill_rows
rows_same l at stride w zero f g e = refl
rows_same l at stride w (suc h) f g e =
    rw (rows_same l at stride w h f g (λ r c rh cw. e r c (omega arith) cw)) (fill_same _ (at + h * stride) w (f h) (g h) (λ c cw. e h c (omega arith) cw))

pub one-row : (l : List ℕ) (at stride w : ℕ) (f : ℕ → ℕ → ℕ) → fill_rows l at stride w 1 f ≡ fill l at w (f 0)
unfolding fill_rows
one-row l at stride w f = rw (zero-mul, add-zero) refl

pub rows_paint : (l : List ℕ) (stride w h : ℕ) (f : ℕ → ℕ → ℕ) → fill_rows l 0 stride w h f ≡ paint l stride w h f
unfolding fill_rows paint
rows_paint l stride w zero f = refl
rows_paint l stride w (suc h) f = rw (rows_paint l stride w h f, zero-add) refl

-- rows of eight, of which the first w are kept
pub rows_kept : (wide out : List ℕ) (w h at stride : ℕ) (f : ℕ → ℕ → ℕ) → w ≤ 8 → h * 8 ≤ length wide
    → fill_rows out at stride w h (eighths (fill_rows wide 0 8 8 h f)) ≡ fill_rows out at stride w h f
unfolding eighths onward
rows_kept wide out w h at stride f w8 long =
    rows_same out at stride w h _ _
    (λ r c rh cw.
    ap (λ (x : List ℕ). get_or x (r * 8 + c) 0) (rows_paint wide 8 8 h f)
    ∙ paint_at wide 8 8 h f (omega arith) (omega (arith, rh, long)) r c rh (omega arith))

-- the same with the first n rows of a rectangle
pub record Painting (l : List ℕ) (stride w n : ℕ) (f : ℕ → ℕ → ℕ) (now : List ℕ) : Type 0 where
  pub is : now ≡ paint l stride w n f
  pub long : length now ≡ length l

pub paint_none : (l : List ℕ) (stride w : ℕ) (f : ℕ → ℕ → ℕ) → Painting l stride w 0 f l
unfolding paint
paint_none l stride w f = record { is = refl; long = refl }

pub paint_turn : {l : List ℕ} {stride w n : ℕ} {f : ℕ → ℕ → ℕ} {now next : List ℕ} → Painting l stride w n f now
    → next ≡ fill now (n * stride) w (f n) → Painting l stride w (n + 1) f next
unfolding paint
paint_turn {l} {stride} {w} {n} {f} {now} {next} s e = record {
  is = e ∙ rw (s.is, add-one);
  long = ap length e ∙ length-fill now (n * stride) w (f n) ∙ s.long;
}
