-- The block prediction below accepts what an accepted whole prediction asks of it, and paints what the definition says. Assumes nothing.
use mathlib.Core.Path.{◌≡◌, refl, sym, ap, ◌∙◌}
use mathlib.Core.Bool.{Bool, true, false, ◌||◌}
use mathlib.Core.List.{List, ◌++◌, append-nil}
use mathlib.Core.Logic.{◌⊎◌, inl, inr, ⊎_elim}
use Prim.Native.Nat.{ℕ, zero, suc, ◌+◌, ◌-◌, ◌*◌, ◌<◌, ◌≤◌, min}
use native.Mathlib.Nat.{mul-le-mul_right}
use native.Mathlib.Omega.{arith}
use borrow.Author.Tests.{leb-true, le-leb, lt-ltb, ne_eqb, eqb-true}
use borrow.Rule.Slice.PartMut.{put_mid, Post-is}
use lib.Dec.{eqb}
use lib.Seq.{drop-length}
use lib.ListN.{length, take, drop, take-append-drop}
use Rattle.std.specs.Prelude.{Ok, Err}
use Rattle.base.specs.Answer.{unless}
use Rattle.base.specs.Refused.{number}
use Rattle.base.specs.declared.refusal.Refusal.{Refusal}
use Rattle.base.proofs.Numbered.{not_accepted}
use Rattle.base.specs.Number.{within}
use Rattle.base.specs.Paint.{fill, paint, on_part}
use Rattle.base.specs.Position.{to_n}
use Rattle.base.proofs.Painted.{paint_same}
use Rattle.base.proofs.Tests.{clash, and_both, and_three, within_both}
use Rattle.vectors.specs.Scale.{placed}
use Rattle.scaling.proofs.Tested.{placed_small}
use Rattle.planes.specs.Plane.{sized, holds}
use Rattle.samples.specs.Call as Call
use Rattle.samples.specs.Call.{Ref, Call, call, ref, also, starts, out_fits, value}
use Rattle.base.specs.declared.units.Stepping.{Stepping}
use Rattle.samples.proofs.Reached.{blend_same}
use Rattle.judgement.proofs.Joined.{ref_sized}
use Rattle.blocks.specs.declared.block.BlockShape.{BlockShape}
use Rattle.judgement.specs.Chain.{Judgement}
use Rattle.judgement.specs.declared.judging.Judged.{Judged}
use Rattle.judgement.proofs.Accepted.{Accepted, accepted, both_true, given, starts_taken, look_one, look-two, told_one, told_two}
use Rattle.prediction.specs.Predict.{Whole, stepping_of, plane_of, shape_of, call_of, dest_fits, first, number_of, painted, after, Outcome}
use Rattle.prediction.specs.Chain.{Ready, paint_from}

-- ---- the block prediction below

-- the part inside the destination: where it has samples it starts there and ends there
record Part (at size count end : ℕ) : Type 0 where
  starts : at < end
  ends : at + count ≤ end
  most : count ≤ size

part : (at size end : ℕ) → 0 < min size (end - at) → Part at size (min size (end - at)) end
part at size end h = record { starts = omega arith; ends = omega arith; most = omega arith }

-- a rectangle inside the destination fits what is left of it from its first sample on
rest_fits : (dw dh x y w h n : ℕ) → (dh - 1) * dw + dw ≤ n → 0 < h → x + w ≤ dw → y + h ≤ dh
    → (y * dw + x ≤ n) × ((h - 1) * dw + w ≤ n - (y * dw + x))
rest_fits dw dh x y w h n long h0 xw yh =
    let k : ℕ = h - 1 in
    let up : k + y ≤ dh - 1 = omega arith in
    let m : (k + y) * dw ≤ (dh - 1) * dw = mul-le-mul_right dw up in
    let e : k * dw + y * dw ≤ (dh - 1) * dw = omega arith in
    (omega arith, omega arith)

-- what is asked of list 1 only when averaging
also_then : (t u v : Bool) → also t u ≡ true → (t ≡ true → u ≡ true → v ≡ true) → also t v ≡ true
also_then true u v e h = h refl e
also_then false u v e h = refl

zero-five : (r k s t l : Bool) → r ≡ true → k ≡ true → s ≡ true → t ≡ true → l ≡ true
    → unless 1 r (unless 4 k (unless 5 s (unless 6 t (unless 7 l 0)))) ≡ 0
unfolding unless
zero-five r k s t l a b c d e = rw (a, b, c, d, e)

in_both : (low high x : ℕ) → low ≤ x → x ≤ high → within low high x ≡ true
unfolding within
in_both low high x a b = rw (le-leb low x a, le-leb x high b)

-- the call that the code makes: list 1's start is the definition's where it is looked at
abbrev pub call_with : Whole → Stepping → Call
call_with a two =
    call (shape_of a) (ref (plane_of a a.one) (stepping_of a false a.one)) (ref (plane_of a a.two) two) a.dest.width

module _ (a : Whole) (n m : ℕ) (two : Stepping) (zero : number_of a n m ≡ 0) (e : a.args.average ≡ true → two ≡ stepping_of a true a.two) where
  ok : Accepted a n m
  ok = accepted a n m zero

  dest : (within 1 65536 a.dest.width ≡ true) × ((within 1 65536 a.dest.height ≡ true)
      × (holds a.dest.height a.dest.width a.dest.width n ≡ true))
  unfolding dest_fits
  dest = and_three _ _ _ ok.dest

  long : (a.dest.height - 1) * a.dest.width + a.dest.width ≤ n
  unfolding holds
  long =
      let high = within_both 1 65536 a.dest.height dest.1.0 in
      leb-true _ n (rw (lt-ltb 0 a.dest.height high.0) at dest.1.1)

  room : 0 < (shape_of a).w → 0 < (shape_of a).h
      → (first a ≤ n) × (((shape_of a).h - 1) * a.dest.width + (shape_of a).w ≤ n - first a)
  room w h =
      let x = part (to_n a.args.x) a.args.w a.dest.width w in
      let y = part (to_n a.args.y) a.args.h a.dest.height h in
      rest_fits a.dest.width a.dest.height (to_n a.args.x) (to_n a.args.y) (shape_of a).w (shape_of a).h n long h x.ends y.ends

  taken : 0 < (shape_of a).w → 0 < (shape_of a).h → Call.number_of (call_with a two) (n - first a) m ≡ 0
  unfolding Call.number_of out_fits holds
  taken w h =
      let x = part (to_n a.args.x) a.args.w a.dest.width w in
      let y = part (to_n a.args.y) a.args.h a.dest.height h in
      let wide = within_both 1 65536 a.dest.width dest.0 in
      let fit = room w h in
      let sized2 = also_then a.args.average _ (sized (plane_of a a.two).geom) ok.two
      (λ t u. ref_sized a.args a.frame a.two.geom u) in
      let starts2 = also_then a.args.average _ (starts two) ok.two
      (λ t u. rw (e t) (starts_taken a.args a.grid a.frame a.mvs true a.two.geom (look-two a n m ok t))) in
      let out = in_both (shape_of a).w 131072 a.dest.width (omega (arith, x.ends)) (omega (arith, wide.1)) in
      let rows : holds (shape_of a).h a.dest.width (shape_of a).w (n - first a) ≡ true = rw (lt-ltb 0 (shape_of a).h h) (le-leb _ _ fit.1) in
      zero-five _ _ _ _ _
      (both_true (in_both 1 64 (shape_of a).w w (omega (arith, x.most, ok.w.1))) (in_both 1 64 (shape_of a).h h (omega (arith, y.most, ok.h.1))))
      ok.filter
      (both_true (ref_sized a.args a.frame a.one.geom ok.one) sized2)
      (both_true (starts_taken a.args a.grid a.frame a.mvs false a.one.geom (look_one a n m ok)) starts2)
      (both_true (both_true ok.bands ok.bands2) (both_true (both_true out rows) ok.room))

  -- where there is something to predict, the block prediction below accepts it
  pub ready : Ready (call_with a two) (first a) n m
  ready = record { place = λ w h. (room w h).0; taken = λ w h. taken w h }

-- ---- the destination

-- the block's corner, as far as its place is computed from it
pub corner : (a : Whole) (n m : ℕ) → number_of a n m ≡ 0 → (to_n a.args.y ≤ 65535) × (a.dest.width ≤ 65536)
unfolding dest_fits
corner a n m e =
    let ok = accepted a n m e in
    let y = (and_both (placed a.args.x) (placed a.args.y) ok.place).1 in
    let w = (and_three (within 1 65536 a.dest.width) _ _ ok.dest).0 in
    (placed_small a.args.y y, (within_both 1 65536 a.dest.width w).1)

-- without averaging list 1's start does not show
value_same : (a : Whole) (two : Stepping) → (a.args.average ≡ true → two ≡ stepping_of a true a.two) → (r c : ℕ)
    → value (call_with a two) r c ≡ value (call_of a) r c
unfolding value
value_same a two e r c = blend_same a.args.average _ _ _ _ refl (λ q. rw (e q))

pub painted_is : (a : Whole) (two : Stepping) (out : List ℕ) → (a.args.average ≡ true → two ≡ stepping_of a true a.two)
    → paint_from (first a) (call_with a two) out ≡ painted a out
unfolding paint_from painted on_part
painted_is a two out e =
    ap (λ (l : List ℕ). take (first a) out ++ l)
    (paint_same (drop (first a) out) a.dest.width (shape_of a).w (shape_of a).h _ _ (λ r c rh cw. value_same a two e r c))

pub after_taken : (a : Whole) (out : List ℕ) (m : ℕ) → number_of a (length out) m ≡ 0 → after a out m ≡ painted a out
unfolding after
after_taken a out m e = given _ _ _ e

pub after_refused : (a : Whole) (out : List ℕ) (m : ℕ) → (number_of a (length out) m ≡ 0 → ⊥) → after a out m ≡ out
unfolding after
after_refused a out m d = simp (ne_eqb _ 0 d)

-- nothing to paint changes nothing
paint_thin : (l : List ℕ) (stride w h : ℕ) (f : ℕ → ℕ → ℕ) → w ≡ 0 → paint l stride w h f ≡ l
unfolding paint fill
paint_thin l stride zero zero f e = refl
paint_thin l stride zero (suc h) f e = paint_thin l stride zero h f e
paint_thin l stride (suc w) h f e = absurd (omega arith)

paint_flat : (l : List ℕ) (stride w h : ℕ) (f : ℕ → ℕ → ℕ) → h ≡ 0 → paint l stride w h f ≡ l
unfolding paint
paint_flat l stride w zero f e = refl
paint_flat l stride w (suc h) f e = absurd (omega arith)

pub paint_none : (k : Call) (i : ℕ) (out : List ℕ) → (k.shape.w ≡ 0) ⊎ (k.shape.h ≡ 0) → paint_from i k out ≡ out
unfolding paint_from on_part
paint_none k i out h =
    ap (λ (l : List ℕ). take i out ++ l) (⊎_elim (λ e. paint_thin _ _ _ _ _ e) (λ e. paint_flat _ _ _ _ _ e) h) ∙ take-append-drop i out

-- the test for it, as the code makes it
pub none_or : (w h : ℕ) → (eqb w 0 || eqb h 0) ≡ true → (w ≡ 0) ⊎ (h ≡ 0)
none_or w h e = by-test (eqb w 0) refl
  where
    by-test : (t : Bool) → eqb w 0 ≡ t → (w ≡ 0) ⊎ (h ≡ 0)
    by-test true q = inl (eqb-true w 0 q)
    by-test false q = inr (eqb-true h 0 (rw q at e))

pub some-both : (w h : ℕ) → (eqb w 0 || eqb h 0) ≡ false → (0 < w) × (0 < h)
some-both w h e = (above w (λ q. clash (sym e ∙ first q)), above h (λ q. clash (sym e ∙ second (eqb w 0) q)))
  where
    above : (n : ℕ) → (eqb n 0 ≡ true → ⊥) → 0 < n
    above zero d = absurd (d refl)
    above (suc n) d = omega arith

    first : eqb w 0 ≡ true → (eqb w 0 || eqb h 0) ≡ true
    first q = rw q

    second : (t : Bool) → eqb h 0 ≡ true → (t || eqb h 0) ≡ true
    second true q = refl
    second false q = q

-- a part from place i to the end, put back
pub put_rest : (i : ℕ) (out new : List ℕ) → i ≤ length out → put_mid i (length out - i) out new ≡ take i out ++ new
put_rest i out new h =
    ap (λ (l : List ℕ). take i out ++ (new ++ l)) (Post-is i (length out) out h ∙ drop-length out)
    ∙ ap (λ (l : List ℕ). take i out ++ l) (append-nil new)

-- ---- a call, by what it is told

pub refused : (a : Whole) (out room : List ℕ) (t : Judged) (r : Refusal) → Judgement a (length out) (length room) t → t.answer ≡ Err r
    → Outcome a out room (number r) out room
refused a out room t r j e =
    let n : number r ≡ number_of a (length out) (length room) = rw e at j.number in
    record { number = n; output = sym (after_refused a out _ (λ z. not_accepted r (n ∙ z))); kept = λ d. refl }

module _ (a : Whole) (out room : List ℕ) (t : Judged) (j : Judgement a (length out) (length room) t) (e : t.answer ≡ Ok tt) where
  pub told_zero : number_of a (length out) (length room) ≡ 0
  told_zero = sym (rw e at j.number)

  told_second : a.args.average ≡ true → t.from2 ≡ stepping_of a true a.two
  told_second = told_two a _ _ t j told_zero

  -- the call of the block prediction below
  module _ (b : BlockShape) (p q : Ref) (i : ℕ) (shape : b ≡ shape_of a) (one : p ≡ ref (plane_of a a.one) t.from)
      (two : q ≡ ref (plane_of a a.two) t.from2) (at : i ≡ first a) where
    called : call b p q a.dest.width ≡ call_with a t.from2
    called = rw (shape, one, two, told_one a _ _ t j told_zero)

    pub ready_call : Ready (call b p q a.dest.width) i (length out) (length room)
    ready_call = rw (called, at) (ready a _ _ t.from2 told_zero told_second)

    pub accepted_call : (out' room' : List ℕ) → out' ≡ paint_from i (call b p q a.dest.width) out → Outcome a out room 0 out' room'
    accepted_call out' room' o =
        record {
          number = sym told_zero;
          output = (rw (called, at) at o) ∙ painted_is a t.from2 out told_second ∙ sym (after_taken a out _ told_zero);
          kept = λ d. absurd (d told_zero);
        }
