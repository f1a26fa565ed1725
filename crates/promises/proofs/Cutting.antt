-- CUTTING (demand 3): a block cut into rectangles, predicted by any calls that the contract permits, in any order and in whatever bands, is the
-- block predicted in one call. Assumes nothing.
use mathlib.Core.Path.{◌≡◌, refl, sym, ap, subst, ◌∙◌}
use mathlib.Core.Bool.{Bool, true, false, cond}
use mathlib.Core.List.{List, ◌∷◌, ◌++◌}
use mathlib.Core.Logic.{⊎_elim, ◌⊎◌, inl, inr, ◌≢◌}
use Prim.Native.Nat.{ℕ, ◌+◌, ◌-◌, ◌*◌, ◌<◌, ◌≤◌}
use native.Mathlib.Nat.{mul-le-mul_right, not-suc-le-zero}
use native.Mathlib.Omega.{arith}
use borrow.Author.Tests.{leb-true, ltb-true}
use lib.Dec.{leb, ltb}
use lib.ListN.{length, get_or, take, drop, length-drop}
use lib.Seq.{ext_get_or}
use Rattle.base.specs.Paint.{paint, on_part}
use Rattle.base.proofs.Painted.{lt_or_ge, find, length-paint, paint_at, paint_else, length_part, part_at, part_else}
use Rattle.base.proofs.Tests.{and_four}
use Rattle.samples.specs.Call.{Ref, Call, value, number_of, Outcome}
use Rattle.samples.specs.Reach.{Piece}
use Rattle.blocks.specs.Passed.{Legal}
use Rattle.blocks.proofs.Facts.{legal_says}
use Rattle.samples.proofs.Accepted.{accepted, after_taken}
use Rattle.planes.proofs.Fitting.{holds_row}
use Rattle.samples.proofs.Reached.{rectangle}
use Rattle.blocks.specs.declared.block.BlockShape.{BlockShape}
use Rattle.promises.specs.Cut.{Part, Onward, Within, Each, has, count, Cover, Tiling, first, Made, done, next}

-- ---- what an accepted call says of its output

-- rows lie far enough apart, and the last one fits n numbers
record Room (a : Call) (n : ℕ) : Type 0 where
  high : 1 ≤ a.shape.h
  apart : a.shape.w ≤ a.stride
  long : (a.shape.h - 1) * a.stride + a.shape.w ≤ n

room_of : (a : Call) (n m : ℕ) → number_of a n m ≡ 0 → Room a n
room_of a n m e =
    let t = accepted a n m e in
    let f = legal_says a.shape a.one t.one in
    record {
      high = f.h.0;
      apart = t.apart;
      long = holds_row a.shape.h a.stride a.shape.w n (a.shape.h - 1) t.out (omega (arith, f.h));
    }

refit : {a : Call} {m n : ℕ} → Room a n → m ≡ n → Room a m
refit {a = a} fit e = subst (Room a) (sym e) fit

-- ---- a rectangle's call

piece_of : (b : BlockShape) (a p : Ref) (r0 c0 : ℕ) → Onward a p r0 c0 → Legal b p → Piece a p r0 c0
piece_of b a p r0 c0 o l =
    let f = legal_says b p l in record { plane = o.plane; wide = f.width; high = f.height; from = o.from }

-- the sample of a rectangle's accepted call is the block's
value_is : (a : Call) (q : Part) (n m : ℕ) → Within a q → number_of q.call n m ≡ 0 → (r c : ℕ)
    → value q.call r c ≡ value a (q.r0 + r) (q.c0 + c)
value_is a q n m i e r c =
    let t = accepted q.call n m e in
    rectangle a q.call q.r0 q.c0 r c
    (record {
      filter = i.filter;
      depth = i.depth;
      average = i.average;
      one = piece_of q.call.shape a.one q.call.one q.r0 q.c0 i.one t.one;
      two = λ y. piece_of q.call.shape a.two q.call.two q.r0 q.c0 (i.two y) (t.two (i.average ∙ y));
    })

-- what one call did, on the output from the rectangle's first sample on
module _ (a : Call) (q : Part) (out room got room' : List ℕ) (fit : Room a (length out)) (i : Within a q)
    (o : Outcome q.call (drop (first a.stride q) out) room 0 got room') where
  abbrev start : ℕ
  start = first a.stride q

  own : Room q.call (length (drop start out))
  own = room_of q.call _ (length room) (sym o.number)

  inside : start ≤ length out
  inside =
      let up : q.r0 ≤ a.shape.h - 1 = omega (arith, i.rows, own.high, fit.high) in
      omega (arith, i.cols, fit.long, mul-le-mul_right a.stride up)

  long : (q.call.shape.h - 1) * a.stride + q.call.shape.w ≤ length out - start
  long = omega (arith, own.long, length-drop start out, ap (λ (n : ℕ). (q.call.shape.h - 1) * n) i.stride)

  apart : q.call.shape.w ≤ a.stride
  apart = omega (arith, own.apart, i.stride)

  now : List ℕ
  now = on_part start (λ (l : List ℕ). paint l a.stride q.call.shape.w q.call.shape.h (value q.call)) out

  now_is : take start out ++ got ≡ now
  unfolding now on_part
  now_is =
      ap (λ (l : List ℕ). take start out ++ l)
      (o.output ∙ after_taken q.call (drop start out) (length room) (sym o.number)
      ∙ ap (λ (n : ℕ). paint (drop start out) n q.call.shape.w q.call.shape.h (value q.call)) i.stride)

  now_length : length (take start out ++ got) ≡ length out
  unfolding now
  now_length = ap length now_is ∙ length_part out start a.stride _ _ _ inside

  now_at : (s d : ℕ) → s < q.call.shape.h → d < q.call.shape.w
      → get_or (take start out ++ got) ((q.r0 + s) * a.stride + (q.c0 + d)) 0 ≡ value a (q.r0 + s) (q.c0 + d)
  unfolding now
  now_at s d sh dw =
      let e : (q.r0 + s) * a.stride + (q.c0 + d) ≡ start + (s * a.stride + d) = omega arith in
      ap (λ (l : List ℕ). get_or l ((q.r0 + s) * a.stride + (q.c0 + d)) 0) now_is
      ∙ ap (λ (j : ℕ). get_or now j 0) e
      ∙ part_at out start a.stride _ _ _ inside apart long s d sh dw
      ∙ value_is a q _ (length room) i (sym o.number) s d

  now_else : (j : ℕ) → ((s d : ℕ) → s < q.call.shape.h → d < q.call.shape.w → j ≢ (q.r0 + s) * a.stride + (q.c0 + d))
      → get_or (take start out ++ got) j 0 ≡ get_or out j 0
  unfolding now
  now_else j away =
      ap (λ (l : List ℕ). get_or l j 0) now_is
      ∙ part_else out start a.stride _ _ _ inside j (λ s d sh dw e. away s d sh dw (omega arith))

-- place j is that of row s and column d of the rectangle
record Of (stride : ℕ) (q : Part) (j : ℕ) : Type 0 where
  s : ℕ
  d : ℕ
  sh : s < q.call.shape.h
  dw : d < q.call.shape.w
  is : j ≡ (q.r0 + s) * stride + (q.c0 + d)

-- a place is one of the rectangle's, or none of them
of : (stride : ℕ) (q : Part) (j : ℕ)
    → Of stride q j ⊎ ((s d : ℕ) → s < q.call.shape.h → d < q.call.shape.w → j ≢ (q.r0 + s) * stride + (q.c0 + d))
of stride q j =
    ⊎_elim
    (λ lt. inr (λ s d sh dw e. omega arith))
    (λ ge. ⊎_elim
    (λ f. inl (record { s = f.r; d = f.c; sh = f.rh; dw = f.cw; is = omega (arith, f.is) }))
    (λ away. inr (λ s d sh dw e. away s d sh dw (omega arith)))
    (find stride q.call.shape.w q.call.shape.h (j - first stride q)))
    (lt_or_ge j (first stride q))

-- the place of a sample that the rectangle has
of_has : (stride : ℕ) (q : Part) (r c : ℕ) → has q r c ≡ true → Of stride q (r * stride + c)
unfolding has
of_has stride q r c e =
    let t = and_four (leb q.r0 r) (ltb r (q.r0 + q.call.shape.h)) (leb q.c0 c) (ltb c (q.c0 + q.call.shape.w)) e in
    let top = leb-true q.r0 r t.0 in
    let bottom = ltb-true r (q.r0 + q.call.shape.h) t.1.0 in
    let left = leb-true q.c0 c t.1.1.0 in
    let right = ltb-true c (q.c0 + q.call.shape.w) t.1.1.1 in
    let down : r ≡ q.r0 + (r - q.r0) = omega arith in
    record {
      s = r - q.r0;
      d = c - q.c0;
      sh = omega arith;
      dw = omega arith;
      is = omega (arith, ap (λ (k : ℕ). k * stride) down);
    }

-- ---- the calls, one after the other

-- a sample that a list of rectangles has is the first one's or a later one's
one_more : (q : Part) (qs : List Part) (r c : ℕ) → 0 < count (q ∷ qs) r c → (has q r c ≡ true) ⊎ (0 < count qs r c)
unfolding count
one_more q qs r c p = by-test (has q r c) refl p
  where
    by-test : (t : Bool) → has q r c ≡ t → 0 < cond t 1 0 + count qs r c → (has q r c ≡ true) ⊎ (0 < count qs r c)
    by-test true h p = inl h
    by-test false h p = inr (omega arith)

-- `whole` has the block's samples at the block's places: what the uncut call leaves
module _ (a : Call) (n : ℕ) (fit : Room a n) (whole : List ℕ)
    (right : (r c : ℕ) → r < a.shape.h → c < a.shape.w → get_or whole (r * a.stride + c) 0 ≡ value a r c) where
  -- a call puts at the rectangle's places what the uncut one puts there
  step-put : (q : Part) (out room got room' : List ℕ) → length out ≡ n → Within a q
      → Outcome q.call (drop (first a.stride q) out) room 0 got room'
      → (j : ℕ) → Of a.stride q j → get_or (take (first a.stride q) out ++ got) j 0 ≡ get_or whole j 0
  step-put q out room got room' e i o j p =
      rw p.is
      (now_at a q out room got room' (refit fit e) i o p.s p.d p.sh p.dw
      ∙ sym (right (q.r0 + p.s) (q.c0 + p.d) (omega (arith, i.rows, p.sh)) (omega (arith, i.cols, p.dw))))

  -- so that what a place has already of the uncut call's stays
  step_kept : (q : Part) (out room got room' : List ℕ) → length out ≡ n → Within a q
      → Outcome q.call (drop (first a.stride q) out) room 0 got room'
      → (j : ℕ) → get_or out j 0 ≡ get_or whole j 0 → get_or (take (first a.stride q) out ++ got) j 0 ≡ get_or whole j 0
  step_kept q out room got room' e i o j same =
      ⊎_elim
      (λ p. step-put q out room got room' e i o j p)
      (λ away. now_else a q out room got room' (refit fit e) i o j away ∙ same)
      (of a.stride q j)

  kept : {qs : List Part} {out last : List ℕ} → length out ≡ n → Each (Within a) qs → Made a.stride qs out last
      → (j : ℕ) → get_or out j 0 ≡ get_or whole j 0 → get_or last j 0 ≡ get_or whole j 0
  kept e i done j same = same
  kept e i (next {q = q} {out = out} room got room' o m) j same =
      let size = now_length a q out room got room' (refit fit e) i.0 o ∙ e in
      kept size i.1 m j (step_kept q out room got room' e i.0 o j same)

  -- and each sample of a rectangle is reached
  reached : {qs : List Part} {out last : List ℕ} → length out ≡ n → Each (Within a) qs → Made a.stride qs out last
      → (r c : ℕ) → 0 < count qs r c → get_or last (r * a.stride + c) 0 ≡ get_or whole (r * a.stride + c) 0
  unfolding count
  reached e i done r c p = absurd (not-suc-le-zero p)
  reached e i (next {q = q} {qs = qs} {out = out} room got room' o m) r c p =
      let size = now_length a q out room got room' (refit fit e) i.0 o ∙ e in
      ⊎_elim
      (λ h. kept size i.1 m (r * a.stride + c) (step-put q out room got room' e i.0 o (r * a.stride + c) (of_has a.stride q r c h)))
      (λ later. reached size i.1 m r c later)
      (one_more q qs r c p)

made_length : (a : Call) (n : ℕ) → Room a n → {qs : List Part} {out last : List ℕ} → length out ≡ n → Each (Within a) qs
    → Made a.stride qs out last → length last ≡ n
made_length a n fit e i done = e
made_length a n fit e i (next {q = q} {out = out} room got room' o m) =
    made_length a n fit (now_length a q out room got room' (refit fit e) i.0 o ∙ e) i.1 m

-- ---- the theorem

module _ (a : Call) (out room whole room' : List ℕ) (o : Outcome a out room 0 whole room') where
  whole_is : whole ≡ paint out a.stride a.shape.w a.shape.h (value a)
  whole_is = o.output ∙ after_taken a out (length room) (sym o.number)

  fits : Room a (length out)
  fits = room_of a (length out) (length room) (sym o.number)

  whole-at : (r c : ℕ) → r < a.shape.h → c < a.shape.w → get_or whole (r * a.stride + c) 0 ≡ value a r c
  whole-at r c rh cw =
      ap (λ (l : List ℕ). get_or l (r * a.stride + c) 0) whole_is
      ∙ paint_at out a.stride a.shape.w a.shape.h (value a) fits.apart fits.long r c rh cw

  whole-else : (j : ℕ) → ((r c : ℕ) → r < a.shape.h → c < a.shape.w → j ≢ r * a.stride + c) → get_or out j 0 ≡ get_or whole j 0
  whole-else j away =
      sym (ap (λ (l : List ℕ). get_or l j 0) whole_is ∙ paint_else out a.stride a.shape.w a.shape.h (value a) j away)

-- rectangles that cover the block leave what the uncut call leaves
pub cutting : (a : Call) (out room whole room' : List ℕ) → Outcome a out room 0 whole room'
    → (qs : List Part) → Cover a qs → (last : List ℕ) → Made a.stride qs out last → last ≡ whole
cutting a out room whole room' o qs cover last made =
    let n = length out in
    let fit = fits a out room whole room' o in
    let right = whole-at a out room whole room' o in
    ext_get_or 0 last whole
    (made_length a n fit refl cover.within made
    ∙ sym (ap length (whole_is a out room whole room' o) ∙ length-paint out a.stride a.shape.w a.shape.h (value a)))
    (λ j lt. ⊎_elim
    (λ f. rw f.is (reached a n fit whole right refl cover.within made f.r f.c (cover.all f.r f.c f.rh f.cw)))
    (λ away. kept a n fit whole right refl cover.within made j (whole-else a out room whole room' o j away))
    (find a.stride a.shape.w a.shape.h j))

-- a case of it: each sample in exactly one rectangle
pub cutting_once : (a : Call) (out room whole room' : List ℕ) → Outcome a out room 0 whole room'
    → (qs : List Part) → Tiling a qs → (last : List ℕ) → Made a.stride qs out last → last ≡ whole
cutting_once a out room whole room' o qs tiling =
    cutting a out room whole room' o qs
    (record { within = tiling.within; all = λ r c rh cw. omega (arith, tiling.once r c rh cw) })

-- no other sample changes, whatever of the block the rectangles cover
pub no_other : (a : Call) (out room whole room' : List ℕ) → Outcome a out room 0 whole room'
    → (qs : List Part) → Each (Within a) qs → (last : List ℕ) → Made a.stride qs out last
    → (j : ℕ) → ((r c : ℕ) → r < a.shape.h → c < a.shape.w → j ≢ r * a.stride + c) → get_or last j 0 ≡ get_or out j 0
no_other a out room whole room' o qs within last made j away =
    let else = whole-else a out room whole room' o j away in
    kept a (length out) (fits a out room whole room' o) whole (whole-at a out room whole room' o) refl within made j else ∙ sym else

-- nor does the output's length change
pub no_longer : (a : Call) (out room whole room' : List ℕ) → Outcome a out room 0 whole room'
    → (qs : List Part) → Each (Within a) qs → (last : List ℕ) → Made a.stride qs out last → length last ≡ length out
no_longer a out room whole room' o qs within last made = made_length a (length out) (fits a out room whole room' o) refl within made
