-- The passes of filter 3 are the definition's: rows of one phase, a row whose phase changes, and the vertical pass over what the horizontal one left,
-- from the fourth of the rows that the taps reach on and one row more than the block has. Assumes nothing.
use mathlib.Core.Path.{◌≡◌, refl, sym, ap, ◌∙◌}
use mathlib.Core.List.{List}
use Prim.Native.Nat.{ℕ, ◌+◌, ◌-◌, ◌*◌, ◌/◌, ◌%◌, ◌<◌, ◌≤◌, min}
use native.Mathlib.Nat.{mul-le-mul_left, add-mul, zero-add, add-zero, mul-zero, min-eq_left}
use native.Mathlib.Omega.{arith}
use lib.ListN.{length, get_or}
use Rattle.base.specs.Paint.{paint}
use Rattle.base.proofs.Painted.{paint_at}
use Rattle.taps.specs.Taps.{tap}
use Rattle.taps.specs.Kernel.{level, levels, held_from, seat}
use Rattle.taps.proofs.Filtered.{filtered_whole}
use Rattle.pairs.specs.Pair.{fourth_at, pair_ran, pair_rows, pair_stepped, Low}
use Rattle.pairs.proofs.Two.{pair_same}
use Rattle.planes.specs.Plane.{Lent, plane, width_of, height_of}
use Rattle.passes.specs.Lifted.{across_from, block_at, HeldRoom, HeldLines}
use Rattle.passes.proofs.Edges.{across_on}
use Rattle.pair_passes.specs.PairDown.{pair_down}

-- the two samples of a list that stand side by side, or a row apart
fourth_is : (l : List ℕ) (n s : ℕ) → fourth_at l n s 3 ≡ get_or l s 0
unfolding fourth_at
fourth_is l n s = let e : s + n * (3 - 3) ≡ s = omega arith in ap (λ (k : ℕ). get_or l k 0) e

fifth_is : (l : List ℕ) (n s : ℕ) → fourth_at l n s 4 ≡ get_or l (s + n) 0
unfolding fourth_at
fifth_is l n s = let e : s + n * (4 - 3) ≡ s + n = omega arith in ap (λ (k : ℕ). get_or l k 0) e

-- ---- across

-- rows of one phase over a list that has the two columns of each sample are the horizontal pass in steps of 16
pub even_pair : (max : ℕ) (p : Lent) (l : List ℕ) (s line start y0 w n : ℕ)
    → ((i c : ℕ) → i < n → c < w + 1 → get_or l (s + i * line + c) 0
    ≡ plane p (min (y0 + i - 200003) (height_of p.geom - 1)) (min (start / 16 + 3 + c - 200003) (width_of p.geom - 1)))
    → (i c : ℕ) → i < n → c < w → pair_rows max (start % 16) l 1 s line i c ≡ across_from max (tap 3) p start 16 y0 i c
unfolding pair_rows pair_ran across_from level seat
even_pair max p l s line start y0 w n same i c ni cw =
    let v = min (y0 + i - 200003) (height_of p.geom - 1) in
    let last = width_of p.geom - 1 in
    let phase : (start + 16 * c) % 16 ≡ start % 16 = omega arith in
    let third : start / 16 + 3 + c ≡ (start + 16 * c) / 16 + 3 = omega arith in
    let next : start / 16 + 3 + (c + 1) ≡ (start + 16 * c) / 16 + 4 = omega arith in
    let place : s + i * line + c + 1 ≡ s + i * line + (c + 1) = omega arith in
    rw phase
    (pair_same max (start % 16) _ _ (omega arith)
    (fourth_is l 1 (s + i * line + c) ∙ same i c ni (omega arith) ∙ ap (λ (k : ℕ). plane p v (min (k - 200003) last)) third)
    (fifth_is l 1 (s + i * line + c) ∙ ap (λ (k : ℕ). get_or l k 0) place ∙ same i (c + 1) ni (omega arith)
    ∙ ap (λ (k : ℕ). plane p v (min (k - 200003) last)) next))

-- the lines of rows y0 + i and on give rows i and on of the pass
pub chunk_pair : (max : ℕ) (p : Lent) (lines : List ℕ) (start y0 i w m : ℕ) → HeldLines p (start / 16 + 3) (y0 + i) m (w + 1) lines
    → (r c : ℕ) → r < m → c < w → pair_rows max (start % 16) lines 1 0 71 r c ≡ across_from max (tap 3) p start 16 y0 (i + r) c
chunk_pair max p lines start y0 i w m held r c rm cw =
    even_pair max p lines 0 71 start (y0 + i) w m
    (λ k d km dw. ap (λ (j : ℕ). get_or lines (j + d) 0) (zero-add (k * 71)) ∙ held.is k d km dw) r c rm cw
    ∙ across_on max (tap 3) p start 16 y0 i r c

-- the line of row y0 + j gives row j of the pass
pub line_is : (max : ℕ) (p : Lent) (line : List ℕ) (start y0 j w : ℕ) → HeldLines p (start / 16 + 3) (y0 + j) 1 (w + 1) line
    → (c : ℕ) → c < w → pair_rows max (start % 16) line 1 0 71 0 c ≡ across_from max (tap 3) p start 16 y0 j c
line_is max p line start y0 j w held c cw =
    chunk_pair max p line start y0 j w 1 held 0 c (omega arith) cw ∙ ap (λ (i : ℕ). across_from max (tap 3) p start 16 y0 i c) (add-zero j)

-- a line that has the held samples from the start's fourth column on
pub line_pair : (max : ℕ) (row line : List ℕ) (last start step w d : ℕ)
    → ((j : ℕ) → j < (start % 16 + step * (w - 1)) / 16 + 2 → get_or line (d + j) 0 ≡ held_from row last (start / 16 + 3) j)
    → (c : ℕ) → c < w → pair_stepped max line d (start % 16) step c ≡ levels max (tap 3) row last start step c
unfolding pair_stepped levels level held_from seat
line_pair max row line last start step w d same c cw =
    let far : step * c ≤ step * (w - 1) = mul-le-mul_left step (omega arith) in
    let past : ℕ = (start % 16 + step * c) / 16 in
    let phase : (start + step * c) % 16 ≡ (start % 16 + step * c) % 16 = omega arith in
    let third : start / 16 + 3 + past ≡ (start + step * c) / 16 + 3 = omega arith in
    let next : start / 16 + 3 + (past + 1) ≡ (start + step * c) / 16 + 4 = omega arith in
    let place : d + past + 1 ≡ d + (past + 1) = omega arith in
    rw phase
    (pair_same max ((start % 16 + step * c) % 16) _ _ (omega arith)
    (fourth_is line 1 (d + past) ∙ same past (omega arith) ∙ ap (λ (k : ℕ). get_or row (min (k - 200003) last) 0) third)
    (fifth_is line 1 (d + past) ∙ ap (λ (k : ℕ). get_or line k 0) place ∙ same (past + 1) (omega arith)
    ∙ ap (λ (k : ℕ). get_or row (min (k - 200003) last) 0) next))

-- ---- down

-- in steps of 16 the phase is one for all rows
pub even_down : (max : ℕ) (room : List ℕ) (start r c : ℕ) → pair_rows max (start % 16) room 64 0 64 r c ≡ pair_down max room start 16 r c
unfolding pair_rows pair_down
even_down max room start r c =
    let phase : (start + 16 * r) % 16 ≡ start % 16 = omega arith in
    let row : (start + 16 * r) / 16 - start / 16 ≡ r = omega arith in
    rw (phase, row, zero-add) refl

-- a row by itself
pub one_down : (max phase : ℕ) (room : List ℕ) (b c : ℕ) → pair_rows max phase room 64 b 0 0 c ≡ pair_ran max phase room 64 b c
unfolding pair_rows
one_down max phase room b c = rw (mul-zero, add-zero) refl

-- what the horizontal pass left is at most max: the two rows that a row of the block reads
pub low_row : (max : ℕ) (room : List ℕ) (w start step r h : ℕ) → HeldRoom max room ((start % 16 + step * (h - 1)) / 16 + 2) w → r < h
    → Low max room 64 (((start + step * r) / 16 - start / 16) * 64) 0 w 1
low_row max room w start step r h held rh =
    let far : step * r ≤ step * (h - 1) = mul-le-mul_left step (omega arith) in
    let i : ℕ = (start + step * r) / 16 - start / 16 in
    record {
      fourth = λ j c j1 cw.
          let place : i * 64 + j * 0 + c ≡ i * 64 + c = omega arith in
          rw place (held.le i c (omega arith) cw);
      fifth = λ j c j1 cw.
          let place : i * 64 + j * 0 + c + 64 ≡ (i + 1) * 64 + c = omega arith in
          rw place (held.le (i + 1) c (omega arith) cw);
    }

-- all of them, in steps of 16
pub low_even : (max : ℕ) (room : List ℕ) (w h : ℕ) → HeldRoom max room (h + 1) w → Low max room 64 0 64 w h
low_even max room w h held = record {
  fourth = λ r c rh cw. rw zero-add (held.le r c (omega arith) cw);
  fifth = λ r c rh cw.
      let place : 0 + r * 64 + c + 64 ≡ (r + 1) * 64 + c = omega arith in
      rw place (held.le (r + 1) c (omega arith) cw);
}

-- the vertical pass over what the horizontal one left in the room
module _ (max : ℕ) (p : Lent) (sx stepx sy stepy w h : ℕ) (room : List ℕ) (w64 : w ≤ 64) (long : 8576 ≤ length room)
    (few : (sy % 16 + stepy * (h - 1)) / 16 + 2 ≤ 134) where
  rows : ℕ
  rows = (sy % 16 + stepy * (h - 1)) / 16 + 2

  left : List ℕ
  left = paint room 64 w rows (across_from max (tap 3) p sx stepx (sy / 16 + 3))

  -- t more than the fourth row
  in_room : (r c t : ℕ) → r < h → c < w → t < 2
      → get_or left (((sy + stepy * r) / 16 - sy / 16) * 64 + c + 64 * t) 0
      ≡ level max (tap 3) (plane p (seat (height_of p.geom - 1) (sy + stepy * r) (3 + t))) (width_of p.geom - 1) (sx + stepx * c)
  unfolding left rows across_from seat
  in_room r c t rh cw t2 =
      let far : stepy * r ≤ stepy * (h - 1) = mul-le-mul_left stepy (omega arith) in
      let i : ℕ = (sy + stepy * r) / 16 - sy / 16 + t in
      let place : ((sy + stepy * r) / 16 - sy / 16) * 64 + c + 64 * t ≡ i * 64 + c = omega arith in
      let above : sy / 16 + 3 + i ≡ (sy + stepy * r) / 16 + (3 + t) = omega arith in
      rw place
      (paint_at room 64 w rows (across_from max (tap 3) p sx stepx (sy / 16 + 3)) w64 (omega arith) i c (omega arith) cw ∙ rw above)

  pub two_rows : (r c : ℕ) → r < h → c < w
      → pair_down max (paint room 64 w ((sy % 16 + stepy * (h - 1)) / 16 + 2) (across_from max (tap 3) p sx stepx (sy / 16 + 3))) sy stepy r c
      ≡ block_at max (tap 3) p sx stepx sy stepy r c
  unfolding left rows pair_down pair_ran block_at level
  two_rows r c rh cw =
      let b = ((sy + stepy * r) / 16 - sy / 16) * 64 + c in
      let first : b ≡ b + 64 * 0 = omega arith in
      let second : b + 64 ≡ b + 64 * 1 = omega arith in
      pair_same max ((sy + stepy * r) % 16) _ _ (omega arith)
      (fourth_is left 64 b ∙ ap (λ (k : ℕ). get_or left k 0) first ∙ in_room r c 0 rh cw (omega arith))
      (fifth_is left 64 b ∙ ap (λ (k : ℕ). get_or left k 0) second ∙ in_room r c 1 rh cw (omega arith))

-- ---- whole columns

-- a sample of at most max is its own horizontal result
whole-column : (max : ℕ) (p : Lent) (v sx c x : ℕ) → sx % 16 ≡ 0 → x ≡ plane p v (min (sx / 16 + 3 + c - 200003) (width_of p.geom - 1)) → x ≤ max
    → x ≡ level max (tap 3) (plane p v) (width_of p.geom - 1) (sx + 16 * c)
unfolding level seat
whole-column max p v sx c x z e le =
    let phase : (sx + 16 * c) % 16 ≡ 0 = omega arith in
    let column : sx / 16 + 3 + c ≡ (sx + 16 * c) / 16 + 3 = omega arith in
    rw phase
    (sym (min-eq_left le)
    ∙ ap (λ (k : ℕ). min k max) (e ∙ ap (λ (k : ℕ). plane p v (min (k - 200003) (width_of p.geom - 1))) column)
    ∙ sym (filtered_whole max 3 _ (omega arith)))

-- rows of one phase down a list that has the columns of the block and one row more, none above max
pub straight_is : (max : ℕ) (p : Lent) (l : List ℕ) (s line sx sy w h : ℕ) → sx % 16 ≡ 0 → Low max l line s line w h
    → ((i c : ℕ) → i < h + 1 → c < w → get_or l (s + i * line + c) 0
    ≡ plane p (min (sy / 16 + 3 + i - 200003) (height_of p.geom - 1)) (min (sx / 16 + 3 + c - 200003) (width_of p.geom - 1)))
    → (r c : ℕ) → r < h → c < w → pair_rows max (sy % 16) l line s line r c ≡ block_at max (tap 3) p sx 16 sy 16 r c
unfolding pair_rows pair_ran block_at level seat
straight_is max p l s line sx sy w h z low same r c rh cw =
    let last = height_of p.geom - 1 in
    let b = s + r * line + c in
    let phase : (sy + 16 * r) % 16 ≡ sy % 16 = omega arith in
    let third : sy / 16 + 3 + r ≡ (sy + 16 * r) / 16 + 3 = omega arith in
    let next : sy / 16 + 3 + (r + 1) ≡ (sy + 16 * r) / 16 + 4 = omega arith in
    let place : b + line ≡ s + (r + 1) * line + c = omega (arith, add-mul r 1 line) in
    rw phase
    (pair_same max (sy % 16) _ _ (omega arith)
    (fourth_is l line b
    ∙ whole-column max p _ sx c _ z (rw third at (same r c (omega arith) cw)) (low.fourth r c rh cw))
    (fifth_is l line b
    ∙ whole-column max p _ sx c _ z (ap (λ (k : ℕ). get_or l k 0) place ∙ rw next at (same (r + 1) c (omega arith) cw)) (low.fifth r c rh cw)))
