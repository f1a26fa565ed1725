-- The passes put together: a row of a plane, phase 0 down, and the vertical pass over what the horizontal one left. Assumes nothing.
use mathlib.Core.Path.{◌≡◌, refl, sym, ap, ◌∙◌}
use mathlib.Core.Bool.{Bool, true, false, cond}
use mathlib.Core.List.{List}
use Prim.Native.Nat.{ℕ, ◌+◌, ◌-◌, ◌*◌, ◌/◌, ◌%◌, ◌<◌, ◌≤◌}
use native.Mathlib.Nat.{mul-le-mul_left, mul-le-mul_right, suc-mul, min-le_right, min-eq_left}
use native.Mathlib.Omega.{arith}
use lib.IntN.{ℤ}
use lib.ListN.{length, get_or}
use Rattle.base.specs.Paint.{fill, paint}
use Rattle.base.proofs.Painted.{fill_same, paint_at, paint_else, paint_same, paint_over}
use Rattle.taps.specs.Taps.{tap}
use Rattle.taps.proofs.Loops.{Painting, paint_turn}
use Rattle.planes.specs.Plane.{Lent, plane, row_of, width_of, height_of}
use Rattle.taps.specs.Kernel.{apart, ran, seat, level, listed, levels, mean_of, Below, onward}
use Rattle.passes.specs.Lifted.{across_from, down_at, down_even, block_at, mean_with, written, room_at, HeldRoom}
use Rattle.planes.proofs.Fitting.{row_at}
use Rattle.taps.proofs.Filtered.{samples_same, filtered_whole, filtered_max}

-- samples that agree up to the last one
pub level_same : (max : ℕ) (taps : ℕ → ℕ → ℤ) (x y : ℕ → ℕ) (last q : ℕ) → ((u : ℕ) → u ≤ last → x u ≡ y u) → level max taps x last q ≡ level max taps y last q
unfolding level seat
level_same max taps x y last q e = samples_same max (taps (q % 16)) _ _ (λ t t8. e (seat last q t) (min-le_right _ _))

-- a row of the plane as a list
pub row_level : (max : ℕ) (taps : ℕ → ℕ → ℤ) (p : Lent) (v start step c : ℕ) → 0 < width_of p.geom
    → levels max taps (row_of p v) (width_of p.geom - 1) start step c ≡ level max taps (plane p v) (width_of p.geom - 1) (start + step * c)
unfolding levels
row_level max taps p v start step c wide =
    level_same max taps (listed (row_of p v)) (plane p v) (width_of p.geom - 1) (start + step * c) (λ u le. row_at p v u (omega arith))

-- whole rows need no vertical pass: the horizontal results from the fourth row on
pub whole-rows : (max filter : ℕ) (p : Lent) (sx stepx sy r c : ℕ) → filter < 4 → sy % 16 ≡ 0
    → across_from max (tap filter) p sx stepx (sy / 16 + 3) r c ≡ block_at max (tap filter) p sx stepx sy 16 r c
unfolding across_from block_at level seat
whole-rows max filter p sx stepx sy r c f4 z =
    let phase : (sy + 16 * r) % 16 ≡ 0 = omega arith in
    let row : sy / 16 + 3 + r ≡ (sy + 16 * r) / 16 + 3 = omega arith in
    rw (phase, row) (sym (filtered_whole max filter _ f4 ∙ min-eq_left (filtered_max max _ _)))

-- the vertical pass over what the horizontal one left in the room
module _ (max : ℕ) (taps : ℕ → ℕ → ℤ) (p : Lent) (sx stepx sy stepy w h : ℕ) (room : List ℕ) (w64 : w ≤ 64) (long : 8576 ≤ length room)
    (few : (sy % 16 + stepy * (h - 1)) / 16 + 8 ≤ 134) where
  rows : ℕ
  rows = (sy % 16 + stepy * (h - 1)) / 16 + 8

  left : List ℕ
  left = paint room 64 w rows (across_from max taps p sx stepx (sy / 16))

  in_room : (r c t : ℕ) → r < h → c < w → t < 8
      → apart left 64 (((sy + stepy * r) / 16 - sy / 16) * 64 + c) t
      ≡ level max taps (plane p (seat (height_of p.geom - 1) (sy + stepy * r) t)) (width_of p.geom - 1) (sx + stepx * c)
  unfolding left rows across_from apart seat
  in_room r c t rh cw t8 =
      let far : stepy * r ≤ stepy * (h - 1) = mul-le-mul_left stepy (omega arith) in
      let i : ℕ = (sy + stepy * r) / 16 - sy / 16 + t in
      let place : ((sy + stepy * r) / 16 - sy / 16) * 64 + c + 64 * t ≡ i * 64 + c = omega arith in
      let above : sy / 16 + i ≡ (sy + stepy * r) / 16 + t = omega arith in
      rw place
      (paint_at room 64 w rows (across_from max taps p sx stepx (sy / 16)) w64 (omega arith) i c (omega arith) cw ∙ rw above)

  pub both_passes : (r c : ℕ) → r < h → c < w
      → down_at max taps (paint room 64 w ((sy % 16 + stepy * (h - 1)) / 16 + 8) (across_from max taps p sx stepx (sy / 16))) sy stepy r c
      ≡ block_at max taps p sx stepx sy stepy r c
  unfolding left rows down_at block_at ran level
  both_passes r c rh cw = samples_same max (taps ((sy + stepy * r) % 16)) _ _ (λ t t8. in_room r c t rh cw t8)

-- rows painted above leave a row of the output as it was, so that means may be taken row by row
pub mean_unpainted : (out : List ℕ) (stride w r : ℕ) (f : ℕ → ℕ → ℕ) (g : ℕ → ℕ) (m : List ℕ) → w ≤ stride
    → fill m (r * stride) w (mean_of (paint out stride w r f) (r * stride) g) ≡ fill m (r * stride) w (mean_of out (r * stride) g)
unfolding mean_of
mean_unpainted out stride w r f g m ws =
    fill_same m (r * stride) w _ _
    (λ c cw.
    let e : get_or (paint out stride w r f) (r * stride + c) 0 ≡ get_or out (r * stride + c) 0
    = paint_else out stride w r f (r * stride + c)
    (λ i k ir kw q. omega (arith, suc-mul i stride, mul-le-mul_right stride ir)) in
    rw e)

-- one row more, over the rows above it
pub written_turn : {out : List ℕ} {stride w r : ℕ} {now next : List ℕ} (mean : Bool) (f : ℕ → ℕ → ℕ) → (mean ≡ true → w ≤ stride)
    → Painting out stride w r (written mean out stride f) now
    → next ≡ fill now (r * stride) w (cond mean (mean_of now (r * stride) (f r)) (f r))
    → Painting out stride w (r + 1) (written mean out stride f) next
unfolding mean_with
written_turn {out} {stride} {w} {r} {now} {next} true f apart s e =
    paint_turn s
    (e ∙ ap (λ (o : List ℕ). fill now (r * stride) w (mean_of o (r * stride) (f r))) s.is
    ∙ mean_unpainted out stride w r (mean_with out stride f) (f r) now (apart refl))
written_turn false f apart s e = paint_turn s e

pub written_same : (mean : Bool) (out : List ℕ) (stride w h : ℕ) (f g : ℕ → ℕ → ℕ) → ((r c : ℕ) → r < h → c < w → f r c ≡ g r c)
    → paint out stride w h (written mean out stride f) ≡ paint out stride w h (written mean out stride g)
unfolding mean_with mean_of
written_same true out stride w h f g e =
    paint_same out stride w h _ _ (λ r c rh cw. ap (λ (v : ℕ). (get_or out (r * stride + c) 0 + v + 1) / 2) (e r c rh cw))
written_same false out stride w h f g e = paint_same out stride w h f g e

-- whole rows left in the room
pub room_whole : (max filter : ℕ) (p : Lent) (sx stepx sy w h : ℕ) (room : List ℕ) → filter < 4 → sy % 16 ≡ 0 → w ≤ 64 → (h - 1) * 64 + w ≤ length room
    → (r c : ℕ) → r < h → c < w
    → room_at (paint room 64 w h (across_from max (tap filter) p sx stepx (sy / 16 + 3))) r c ≡ block_at max (tap filter) p sx stepx sy 16 r c
unfolding room_at onward
room_whole max filter p sx stepx sy w h room f4 z w64 long r c rh cw =
    paint_at room 64 w h (across_from max (tap filter) p sx stepx (sy / 16 + 3)) w64 long r c rh cw ∙ whole-rows max filter p sx stepx sy r c f4 z

-- means taken in place of a painted rectangle
pub mean_painted : (out : List ℕ) (stride w h : ℕ) (f g : ℕ → ℕ → ℕ) → w ≤ stride → (h - 1) * stride + w ≤ length out
    → paint (paint out stride w h f) stride w h (mean_with (paint out stride w h f) stride g)
    ≡ paint out stride w h (λ (r c : ℕ). (f r c + g r c + 1) / 2)
unfolding mean_with mean_of
mean_painted out stride w h f g ws fit =
    let m = paint out stride w h f in
    paint_same m stride w h _ _
    (λ r c rh cw. ap (λ (v : ℕ). (v + g r c + 1) / 2) (paint_at out stride w h f ws fit r c rh cw))
    ∙ paint_over out stride w h f _ ws fit

-- what the horizontal pass left is at most max
pub room_held : (max : ℕ) (taps : ℕ → ℕ → ℤ) (p : Lent) (start step y0 w n : ℕ) (room : List ℕ) → w ≤ 64 → (n - 1) * 64 + w ≤ length room
    → HeldRoom max (paint room 64 w n (across_from max taps p start step y0)) n w
unfolding across_from level
room_held max taps p start step y0 w n room w64 long = record {
  le = λ i c ni cw. rw (paint_at room 64 w n (across_from max taps p start step y0) w64 long i c ni cw) (filtered_max max _ _);
}

-- so are the eight rows that a row of the block reads
pub below_row : (max : ℕ) (room : List ℕ) (w start step r h : ℕ) → HeldRoom max room ((start % 16 + step * (h - 1)) / 16 + 8) w → r < h
    → Below max room (((start + step * r) / 16 - start / 16) * 64) w
unfolding apart
below_row max room w start step r h held rh = record {
  le = λ c t cw t8.
      let far : step * r ≤ step * (h - 1) = mul-le-mul_left step (omega arith) in
      let i : ℕ = (start + step * r) / 16 - start / 16 + t in
      let place : ((start + step * r) / 16 - start / 16) * 64 + c + 64 * t ≡ i * 64 + c = omega arith in
      rw place (held.le i c (omega arith) cw);
}

-- in steps of 16
pub below_even : (max : ℕ) (room : List ℕ) (w r h : ℕ) → HeldRoom max room (h + 7) w → r < h → Below max room (r * 64) w
unfolding apart
below_even max room w r h held rh = record {
  le = λ c t cw t8.
      let place : r * 64 + c + 64 * t ≡ (r + t) * 64 + c = omega arith in
      rw place (held.le (r + t) c (omega arith) cw);
}

pub down-even : (max : ℕ) (taps : ℕ → ℕ → ℤ) (room : List ℕ) (start r c : ℕ)
    → down_even max (taps (start % 16)) room r c ≡ down_at max taps room start 16 r c
unfolding down_even down_at
down-even max taps room start r c =
    let phase : (start + 16 * r) % 16 ≡ start % 16 = omega arith in
    let row : (start + 16 * r) / 16 - start / 16 ≡ r = omega arith in
    rw (phase, row) refl
