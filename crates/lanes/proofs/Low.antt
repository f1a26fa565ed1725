-- Eight samples that are at most 255: their sum modulo 65,536 loses nothing, since no row's taps add up to more than 182 above zero or 54
-- below it. One law for both passes. Assumes nothing.
use mathlib.Core.Path.{◌≡◌, refl, sym, ap, subst, ◌∙◌}
use mathlib.Core.Bool.{Bool, true, false, ◌&&◌, cond}
use mathlib.Core.List.{List, []}
use Prim.Native.Nat.{ℕ, suc, ◌+◌, ◌-◌, ◌*◌, ◌/◌, ◌%◌, ◌<◌, ◌≤◌, min}
use native.Mathlib.Nat.{add-mul, add-zero, mul-zero, zero-mul, mul-one, mul-le-mul_left}
use native.Mathlib.Omega.{arith}
use borrow.Author.Tests.{leb-true, ltb-true, ltb-false}
use lib.Dec.{leb, ltb}
use lib.IntN.{ℤ, pos, negsuc, pos-ne-negsuc}
use lib.ListN.{length, get_or, get_or-eq_default}
use Rattle.base.specs.Position.{to_n}
use Rattle.base.proofs.Table.{every, entry}
use Rattle.base.proofs.Tests.{and_both}
use Rattle.taps.specs.Taps.{regular, smooth, sharp, bilinear, filters, tap}
use Rattle.taps.specs.Filter.{filtered}
use Rattle.taps.specs.Eight.{Raised}
use Rattle.taps.specs.Kernel.{products, raised_one, Below, BelowRows, UpToRows, low_tap, low_sum, low_one}
use Rattle.taps.specs.Kernel.{low_ran, low_rows, apart, ran, ran_rows, fill_rows}
use Rattle.taps.specs.declared.eight.Taps.{Taps}
use Rattle.lanes.specs.Rows.{LowRows}
use Rattle.taps.proofs.Filtered.{one_is}
use Rattle.taps.proofs.Loops.{rows_same}

-- ---- the rule of the table

abbrev above : ℤ → ℕ
above (pos n) = n
above (negsuc n) = 0

abbrev beneath : ℤ → ℕ
beneath (pos n) = 0
beneath (negsuc n) = suc n

abbrev eight_of : (ℤ → ℕ) → (ℕ → ℤ) → ℕ
eight_of g f = g (f 0) + g (f 1) + g (f 2) + g (f 3) + g (f 4) + g (f 5) + g (f 6) + g (f 7)

abbrev row_tame : ℕ → List ℤ → Bool
row_tame p row = leb (eight_of above (λ (t : ℕ). get_or row t (pos 0))) 182 && leb (eight_of beneath (λ (t : ℕ). get_or row t (pos 0))) 54

abbrev filter_tame : ℕ → List (List ℤ) → Bool
filter_tame f rows = every row_tame 0 rows

all_tame : every filter_tame 0 filters ≡ true
unfolding filters regular smooth sharp bilinear
all_tame = refl

-- past the end of a list stands no tap
anywhere : {A : Type 0} (f : ℕ → A → Bool) (d : A) (xs : List A) → every f 0 xs ≡ true → (k : ℕ) → f k d ≡ true → f k (get_or xs k d) ≡ true
anywhere f d xs e k past = within (ltb k (length xs)) refl
  where
    within : (t : Bool) → ltb k (length xs) ≡ t → f k (get_or xs k d) ≡ true
    within true h = entry f d xs e k (ltb-true k (length xs) h)
    within false h = rw (get_or-eq_default xs d {n = k} (ltb-false k (length xs) h)) past

tame : (f p : ℕ) → (eight_of above (tap f p) ≤ 182) × (eight_of beneath (tap f p) ≤ 54)
unfolding tap
tame f p =
    let rows = get_or filters f [] in
    let r = and_both _ _ (anywhere row_tame [] rows (anywhere filter_tame [] filters all_tame f refl) p refl) in
    (leb-true _ 182 r.0, leb-true _ 54 r.1)

-- ---- a tap times a sample

back : (n p : ℕ) (t : Bool) → ltb 24 (suc n) ≡ t → cond t (negsuc (suc n - suc 24)) (pos (24 - suc n)) ≡ pos p → p + suc n ≡ 24
back n p true e h = absurd (pos-ne-negsuc p (suc n - suc 24) (sym h))
back n p false e h = let l = ltb-false 24 (suc n) e in let q : 24 - suc n ≡ p = ap to_n h in omega arith

bounds : (p : ℕ) (z : ℤ) (x : ℕ) → Raised p z → x ≤ 255 → (p * x ≤ 24 * x + 255 * above z) × (24 * x ≤ p * x + 255 * beneath z)
bounds p (pos n) x r h =
    let e : p ≡ n + 24 = ap to_n r.is in
    let q : p * x ≡ n * x + 24 * x = ap (λ (k : ℕ). k * x) e ∙ add-mul n 24 x in
    (omega (arith, q, mul-le-mul_left n h), omega (arith, q))
bounds p (negsuc n) x r h =
    let e : p + suc n ≡ 24 = back n p (ltb 24 (suc n)) refl (sym r.is) in
    let q : p * x + suc n * x ≡ 24 * x = sym (add-mul p (suc n) x) ∙ ap (λ (k : ℕ). k * x) e in
    (omega (arith, q), omega (arith, q, mul-le-mul_left (suc n) h))

-- ---- the sum

-- v is s less n, modulo 65,536
pub record Turned (v s n : ℕ) : Type 0 where
  pub turns : ℕ
  pub is : v + n ≡ s + 65536 * turns

-- a lowered tap times a sample
wound : (t x : ℕ) (b : Bool) → ltb t 24 ≡ b → t ≤ 152 → Turned (low_tap t * x) (t * x) (24 * x)
wound t x true e le =
    let l = ltb-true t 24 e in
    let q : low_tap t ≡ t + 65512 = omega arith in
    let m : low_tap t * x ≡ t * x + 65512 * x = ap (λ (k : ℕ). k * x) q ∙ add-mul t 65512 x in
    record { turns = x; is = omega (arith, m) }
wound t x false e le =
    let l = ltb-false t 24 e in
    let q : t ≡ low_tap t + 24 = omega arith in
    let m : t * x ≡ low_tap t * x + 24 * x = ap (λ (k : ℕ). k * x) q ∙ add-mul (low_tap t) 24 x in
    record { turns = 0; is = omega (arith, m) }

-- no turn is lost
pub whole : (v s n j k : ℕ) → v + n + 65536 * j ≡ s + 65536 * k → s ≤ n + 46410 → n ≤ s + 13770 → (v + 16448) % 65536 + n ≡ s + 16448
whole v s n j k e hi lo = omega arith

unbiased : (v s n : ℕ) → v + n ≡ s + 16448 → v - 16384 ≡ s + 64 - n
unbiased v s n e = omega arith

-- eight of them
pub turned : (p : Taps) (x : ℕ → ℕ)
    → Turned (low_sum p (x 0) (x 1) (x 2) (x 3) (x 4) (x 5) (x 6) (x 7)) (products p (x 0) (x 1) (x 2) (x 3) (x 4) (x 5) (x 6) (x 7))
    (24 * (x 0 + x 1 + x 2 + x 3 + x 4 + x 5 + x 6 + x 7))
turned p x =
    let w0 = wound p.t0 (x 0) (ltb p.t0 24) refl p.tap0.le in
    let w1 = wound p.t1 (x 1) (ltb p.t1 24) refl p.tap1.le in
    let w2 = wound p.t2 (x 2) (ltb p.t2 24) refl p.tap2.le in
    let w3 = wound p.t3 (x 3) (ltb p.t3 24) refl p.tap3.le in
    let w4 = wound p.t4 (x 4) (ltb p.t4 24) refl p.tap4.le in
    let w5 = wound p.t5 (x 5) (ltb p.t5 24) refl p.tap5.le in
    let w6 = wound p.t6 (x 6) (ltb p.t6 24) refl p.tap6.le in
    let w7 = wound p.t7 (x 7) (ltb p.t7 24) refl p.tap7.le in
    record {
      turns = w0.turns + w1.turns + w2.turns + w3.turns + w4.turns + w5.turns + w6.turns + w7.turns;
      is = omega (arith, w0.is, w1.is, w2.is, w3.is, w4.is, w5.is, w6.is, w7.is);
    }

pub ranged : (p : Taps) (x : ℕ → ℕ) → ((t : ℕ) → t < 8 → x t ≤ 255)
    → (products p (x 0) (x 1) (x 2) (x 3) (x 4) (x 5) (x 6) (x 7) ≤ 24 * (x 0 + x 1 + x 2 + x 3 + x 4 + x 5 + x 6 + x 7) + 46410)
    × (24 * (x 0 + x 1 + x 2 + x 3 + x 4 + x 5 + x 6 + x 7) ≤ products p (x 0) (x 1) (x 2) (x 3) (x 4) (x 5) (x 6) (x 7) + 13770)
ranged p x low =
    let rule = tame p.filter p.phase in
    let l0 = low 0 (omega arith) in
    let l1 = low 1 (omega arith) in
    let l2 = low 2 (omega arith) in
    let l3 = low 3 (omega arith) in
    let l4 = low 4 (omega arith) in
    let l5 = low 5 (omega arith) in
    let l6 = low 6 (omega arith) in
    let l7 = low 7 (omega arith) in
    let b0 = bounds p.t0 _ (x 0) p.tap0 l0 in
    let b1 = bounds p.t1 _ (x 1) p.tap1 l1 in
    let b2 = bounds p.t2 _ (x 2) p.tap2 l2 in
    let b3 = bounds p.t3 _ (x 3) p.tap3 l3 in
    let b4 = bounds p.t4 _ (x 4) p.tap4 l4 in
    let b5 = bounds p.t5 _ (x 5) p.tap5 l5 in
    let b6 = bounds p.t6 _ (x 6) p.tap6 l6 in
    let b7 = bounds p.t7 _ (x 7) p.tap7 l7 in
    (omega arith, omega arith)

pub low_is : (p : Taps) (x : ℕ → ℕ) → ((t : ℕ) → t < 8 → x t ≤ 255)
    → low_one p (x 0) (x 1) (x 2) (x 3) (x 4) (x 5) (x 6) (x 7) ≡ filtered 255 (tap p.filter p.phase) x
unfolding low_one raised_one
low_is p x low =
    let t = turned p x in
    let g = ranged p x low in
    ap (λ (k : ℕ). min (k / 128) 255) (unbiased _ _ _ (whole _ _ _ 0 t.turns (omega (arith, t.is)) g.0 g.1))
    ∙ one_is 255 p x

-- ---- a row

pub low-ran : (p : Taps) (l : List ℕ) (n b c : ℕ) → ((t : ℕ) → t < 8 → apart l n (b + c) t ≤ 255)
    → low_ran p l n b c ≡ ran 255 (tap p.filter p.phase) l n b c
unfolding low_ran ran apart
low-ran p l n b c low = rw (mul-zero, add-zero, mul-one) at (low_is p (apart l n (b + c)) low)

-- ---- rows over samples of at most 255

pub low_filled : (p : Taps) (l out : List ℕ) (n b line w h at stride : ℕ) → LowRows 255 l n b line w h
    → fill_rows out at stride w h (low_rows p l n b line) ≡ fill_rows out at stride w h (ran_rows 255 (tap p.filter p.phase) l n b line)
unfolding low_rows ran_rows
low_filled p l out n b line w h at stride low =
    rows_same out at stride w h _ _ (λ i c ih cw. low-ran p l n (b + i * line) c (λ t t8. low.le i c t ih cw t8))

pub one_below : {max : ℕ} {l : List ℕ} {b w : ℕ} → Below max l b w → BelowRows max l b w 1
one_below below = record { le = λ r r1. let e : r ≡ 0 = omega arith in rw (e, zero-mul, add-zero) below }

-- what the rows' contracts ask of their samples
pub low_across : {max : ℕ} {l : List ℕ} {b line w h : ℕ} → UpToRows max l b line (w + 7) h → LowRows max l 1 b line w h
unfolding apart
low_across {max} {l} {b} {line} low = record {
  le = λ r c t rh cw t8.
      let e : b + r * line + (c + t) ≡ b + r * line + c + 1 * t = omega arith in
      subst (λ (k : ℕ). get_or l k 0 ≤ max) e ((low.le r rh).le (c + t) (omega arith));
}

pub low_down : {max : ℕ} {l : List ℕ} {b w h : ℕ} → BelowRows max l b w h → LowRows max l 64 b 64 w h
low_down low = record { le = λ r c t rh cw t8. (low.le r rh).le c t cw t8 }
