-- Filter 3 looks at two samples: the sum of its eight products is the sum of two, whatever the samples, and where they are at most max it fits
-- sixteen bits and needs no holding. Assumes nothing.
use mathlib.Core.Path.{◌≡◌, refl, sym, ap, subst, ◌∙◌}
use mathlib.Core.List.{List}
use Prim.Native.Nat.{ℕ, ◌+◌, ◌-◌, ◌*◌, ◌/◌, ◌%◌, ◌<◌, ◌≤◌, min}
use native.Mathlib.Nat.{add-mul, mul_assoc, mul-le-mul_left, add_assoc}
use native.Mathlib.Omega.{arith}
use lib.IntN.{pos, ◌+ℤ◌}
use lib.ListN.{length, get_or}
use lib.Seq.{ext_get_or}
use mathlib.Core.Logic.{⊎_elim, ◌≢◌}
use Rattle.base.specs.Paint.{fill}
use Rattle.base.proofs.Painted.{length-fill, fill_at, fill_else, lt_or_ge}
use Rattle.base.specs.Position.{to_n}
use Rattle.taps.specs.Taps.{tap}
use Rattle.taps.specs.Filter.{sum, filtered}
use Rattle.taps.specs.Kernel.{fill_rows, UpToRows}
use Rattle.taps.proofs.Filtered.{filtered_is, filtered_same}
use Rattle.taps.proofs.TapRules.{bilinear_tap, tap_bilinear}
use Rattle.taps.proofs.Loops.{Filling, rows_same}
use Rattle.pairs.specs.Pair.{fourth_at, pair_ran, pair_rows, pair_sum, pair_of, low_pair, low_pairs, low_pair_rows, Low}

-- the two products of the table's taps are eight times those of their eighths
eighths : (p d e : ℕ) → p < 16 → (128 - 8 * p) * d + 8 * p * e + 64 ≡ 8 * ((16 - p) * d + p * e + 8)
eighths p d e h =
    let less : 128 - 8 * p ≡ 8 * (16 - p) = omega arith in
    let t : (128 - 8 * p) * d ≡ 8 * ((16 - p) * d) = ap (λ (k : ℕ). k * d) less ∙ mul_assoc 8 (16 - p) d in
    omega (arith, t, mul_assoc 8 p e)

-- the law: six products are zero
pub two_is : (max p : ℕ) (x : ℕ → ℕ) → p < 16 → filtered max (tap 3 p) x ≡ pair_of max p (x 3) (x 4)
unfolding pair_of pair_sum
two_is max p x h =
    filtered_same max (tap 3 p) (λ (t : ℕ). pos (bilinear_tap p t)) x x (λ t t8. (tap_bilinear 3 p (omega arith) h t t8 refl, refl))
    ∙ filtered_is max (λ (t : ℕ). pos (bilinear_tap p t)) x
    ∙ ap (λ (n : ℕ). min n max) (divided _ _ (products ∙ eighths p (x 3) (x 4) h))
  where
    divided : (a b : ℕ) → a ≡ 8 * b → a / 128 ≡ b / 16
    divided a b e = omega arith

    products : to_n (sum 8 (λ (t : ℕ). pos (bilinear_tap p t)) x +ℤ pos 64) ≡ (128 - 8 * p) * x 3 + 8 * p * x 4 + 64
    products = omega arith

-- samples that agree where filter 3 looks
pub pair_same : (max p : ℕ) (x y : ℕ → ℕ) → p < 16 → x 3 ≡ y 3 → x 4 ≡ y 4 → filtered max (tap 3 p) x ≡ filtered max (tap 3 p) y
pair_same max p x y h d e = two_is max p x h ∙ rw (d, e) (sym (two_is max p y h))

-- samples of at most max, which is at most 4,095
pub low_two : (max p d e : ℕ) → p < 16 → max ≤ 4095 → d ≤ max → e ≤ max → low_pair p d e ≡ pair_of max p d e
unfolding low_pair pair_of pair_sum
low_two max p d e h m dm em =
    let all : (16 - p) * max + p * max ≡ 16 * max = sym (add-mul (16 - p) p max) ∙ ap (λ (k : ℕ). k * max) (whole p h) in
    let le : (16 - p) * d + p * e ≤ 16 * max = omega (arith, mul-le-mul_left (16 - p) dm, mul-le-mul_left p em, all) in
    few _ _ le m
  where
    whole : (p : ℕ) → p < 16 → 16 - p + p ≡ 16
    whole p h = omega arith

    few : (s m : ℕ) → s ≤ 16 * m → m ≤ 4095 → (s + 8) % 65536 / 16 ≡ min ((s + 8) / 16) m
    few s m h k = omega arith

-- ---- rows

pub pair_at : (max p : ℕ) (l : List ℕ) (n s : ℕ) → p < 16 → pair_of max p (get_or l s 0) (get_or l (s + n) 0) ≡ filtered max (tap 3 p) (fourth_at l n s)
unfolding fourth_at
pair_at max p l n s h =
    let fourth : s ≡ s + n * (3 - 3) = omega arith in
    let fifth : s + n ≡ s + n * (4 - 3) = omega arith in
    ap (λ (k : ℕ). pair_of max p (get_or l k 0) (get_or l (s + n) 0)) fourth
    ∙ ap (λ (k : ℕ). pair_of max p (get_or l (s + n * (3 - 3)) 0) (get_or l k 0)) fifth
    ∙ sym (two_is max p (fourth_at l n s) h)

pub low_rows : (max p : ℕ) (l out : List ℕ) (n b line w h at stride : ℕ) → p < 16 → max ≤ 4095 → Low max l n b line w h
    → fill_rows out at stride w h (low_pair_rows p l n b line) ≡ fill_rows out at stride w h (pair_rows max p l n b line)
unfolding low_pair_rows low_pairs pair_rows pair_ran
low_rows max p l out n b line w h at stride p16 m low =
    rows_same out at stride w h _ _
    (λ r c rh cw. low_two max p _ _ p16 m (low.fourth r c rh cw) (low.fifth r c rh cw) ∙ pair_at max p l n (b + r * line + c) p16)

-- rows whose samples were looked at, one column more than they have
pub low_across : (max : ℕ) (l : List ℕ) (b line w h : ℕ) → UpToRows max l b line (w + 1) h → Low max l 1 b line w h
low_across max l b line w h up = record {
  fourth = λ r c rh cw. (up.le r rh).le c (omega arith);
  fifth = λ r c rh cw.
      subst (λ (k : ℕ). get_or l k 0 ≤ max) (sym (add_assoc (b + r * line) c 1)) ((up.le r rh).le (c + 1) (omega arith));
}

-- one row more
pub low_down : (max : ℕ) (l : List ℕ) (b line w h : ℕ) → UpToRows max l b line (w + 0) (h + 1) → Low max l line b line w h
low_down max l b line w h up = record {
  fourth = λ r c rh cw. (up.le r (omega arith)).le c (omega arith);
  fifth = λ r c rh cw.
      let place : b + (r + 1) * line + c ≡ b + r * line + c + line = omega (arith, add-mul r 1 line) in
      subst (λ (k : ℕ). get_or l k 0 ≤ max) place ((up.le (r + 1) (omega arith)).le c (omega arith));
}

-- ---- runs that overlap

-- the next m of w, or the last m
pub overlapped : (c w m o : ℕ) → m ≤ w → o ≡ min c (w - m) → (o ≤ min c w) × (min (c + m) w ≡ o + m)
overlapped c w m o long e = (omega arith, omega arith)

-- one run more of a row: what was there before it is the same again
pub again_turn : {l : List ℕ} {at w : ℕ} {f : ℕ → ℕ} {now next : List ℕ} (c m o : ℕ) (g : ℕ → ℕ) → Filling l at (min c w) f now → m ≤ w
    → at + w ≤ length l → o ≡ min c (w - m) → next ≡ fill now (at + o) m g → ((k : ℕ) → k < m → g k ≡ f (o + k))
    → Filling l at (min (c + m) w) f next
again_turn {l} {at} {w} {f} {now} {next} c m o g s mw fit place written same =
    let ov = overlapped c w m o mw place in
    let long : length next ≡ length l = ap length written ∙ length-fill now (at + o) m g ∙ s.long in
    record {
      is = ext_get_or 0 next (fill l at (min (c + m) w) f) (long ∙ sym (length-fill l at (min (c + m) w) f)) (λ j lt. at_place j ov.0 ov.1);
      long = long;
    }
  where
    outside : (j : ℕ) → ((k : ℕ) → k < m → j ≢ at + o + k) → get_or next j 0 ≡ get_or (fill l at (min c w) f) j 0
    outside j out =
        ap (λ (x : List ℕ). get_or x j 0) written ∙ fill_else now (at + o) m g j out ∙ ap (λ (x : List ℕ). get_or x j 0) s.is

    at_place : (j : ℕ) → o ≤ min c w → min (c + m) w ≡ o + m → get_or next j 0 ≡ get_or (fill l at (min (c + m) w) f) j 0
    at_place j before end =
        ⊎_elim
        (λ left. outside j (λ k km e. omega arith)
        ∙ fill_else l at (min c w) f j (λ k km e. omega arith)
        ∙ sym (fill_else l at (min (c + m) w) f j (λ k km e. omega arith)))
        (λ right. ⊎_elim
        (λ early.
        let e : j ≡ at + (j - at) = omega arith in
        outside j (λ k km q. omega arith)
        ∙ ap (λ (i : ℕ). get_or (fill l at (min c w) f) i 0) e
        ∙ fill_at l at (min c w) f (omega arith) (j - at) (omega arith)
        ∙ sym (ap (λ (i : ℕ). get_or (fill l at (min (c + m) w) f) i 0) e ∙ fill_at l at (min (c + m) w) f (omega arith) (j - at) (omega arith)))
        (λ late. ⊎_elim
        (λ inside.
        let i : ℕ = j - at - o in
        let e : j ≡ at + o + i = omega arith in
        let d : j ≡ at + (o + i) = omega arith in
        ap (λ (x : List ℕ). get_or x j 0) written
        ∙ ap (λ (k : ℕ). get_or (fill now (at + o) m g) k 0) e
        ∙ fill_at now (at + o) m g (omega (arith, s.long)) i (omega arith)
        ∙ same i (omega arith)
        ∙ sym (ap (λ (k : ℕ). get_or (fill l at (min (c + m) w) f) k 0) d ∙ fill_at l at (min (c + m) w) f (omega arith) (o + i) (omega arith)))
        (λ past. outside j (λ k km q. omega arith)
        ∙ fill_else l at (min c w) f j (λ k km q. omega arith)
        ∙ sym (fill_else l at (min (c + m) w) f j (λ k km q. omega arith)))
        (lt_or_ge j (at + o + m)))
        (lt_or_ge j (at + o)))
        (lt_or_ge j at)
