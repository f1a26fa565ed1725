-- UNREAD (document 02, Req 11): calls that differ in nothing but samples outside the rectangle give the same number and the same output,
-- refused or accepted, averaged or not: block prediction, by the document's rectangle and by what `block_reach` tells. Assumes nothing.
use mathlib.Core.Path.{◌≡◌, refl, sym, ap, ◌∙◌}
use mathlib.Core.Bool.{Bool, true, false, ◌&&◌, cond}
use mathlib.Core.List.{List}
use Prim.Native.Nat.{ℕ, ◌<◌}
use borrow.Author.Tests.{eqb-true}
use lib.Dec.{eqb}
use lib.ListN.{length}
use Rattle.base.specs.Answer.{unless}
use Rattle.base.specs.Number.{within}
use Rattle.base.specs.Paint.{paint}
use Rattle.base.specs.Position.{to_n}
use Rattle.base.proofs.Painted.{paint_same}
use Rattle.planes.specs.Plane.{sized, fits}
use Rattle.planes.specs.declared.plane.PlaneGeom.{PlaneGeom}
use Rattle.blocks.specs.Block.{also, kind, starts}
use Rattle.blocks.specs.Passed.{Legal}
use Rattle.blocks.specs.declared.block.BlockShape.{BlockShape}
use Rattle.reach.specs.Rectangle.{readable}
use Rattle.reach.specs.declared.reaching.Reach.{Reach}
use Rattle.reach.proofs.Accepted.{told}
use Rattle.samples.specs.Call as Call
use Rattle.samples.specs.Call.{Ref, Call, from_ref, value, out_fits, after, Outcome}
use Rattle.samples.specs.Reach.{AgreeOn}
use Rattle.samples.proofs.Reached.{reach, blend_same}
use Rattle.samples.proofs.Accepted.{accepted, after_taken}
use Rattle.promises.specs.Unread.{Alike, AlikeCalls, SameSize, SameCalls, Agreeing, reach_of, told_of}

-- ---- the number

fits_same : {p q : Ref} → Alike p q → fits p.lent ≡ fits q.lent
unfolding fits
fits_same e = rw (e.geom, e.upper, e.lower)

sized_same : {p q : Ref} → Alike p q → sized p.lent.geom ≡ sized q.lent.geom
sized_same e = ap sized e.geom

starts_same : {p q : Ref} → Alike p q → starts p.from ≡ starts q.from
starts_same e = ap starts e.from

pub also_same : (t : Bool) {x y : Bool} → (t ≡ true → x ≡ y) → also t x ≡ also t y
also_same true h = h refl
also_same false h = refl

out_same : (a b : Call) (n m : ℕ) → a.shape ≡ b.shape → a.stride ≡ b.stride → out_fits a n m ≡ out_fits b n m
unfolding out_fits
out_same a b n m e f = rw (e, f)

-- tables of equal tests
rows_same : (b d : BlockShape) {s s' s2 s2' f f' f2 f2' x x' x2 x2' o o' : Bool} → b ≡ d → s ≡ s' → s2 ≡ s2' → f ≡ f' → f2 ≡ f2' → x ≡ x' → x2 ≡ x2'
    → o ≡ o'
    → unless 1 (within 1 64 b.w && within 1 64 b.h)
    (unless 4 (kind b) (unless 5 (s && s2) (unless 6 (f && f2) (unless 7 (x && x2 && o) 0))))
    ≡ unless 1 (within 1 64 d.w && within 1 64 d.h)
    (unless 4 (kind d) (unless 5 (s' && s2') (unless 6 (f' && f2') (unless 7 (x' && x2' && o') 0))))
rows_same b d e es es2 ef ef2 ex ex2 eo = rw (e, es, es2, ef, ef2, ex, ex2, eo)

-- no sample has a say in it
number_same : (a b : Call) (n m : ℕ) → AlikeCalls a b → Call.number_of a n m ≡ Call.number_of b n m
unfolding Call.number_of
number_same a b n m e =
    let t = a.shape.average in
    let move : (x : Bool) → also t x ≡ also b.shape.average x = λ x. ap (λ (s : BlockShape). also s.average x) e.shape in
    rows_same a.shape b.shape e.shape
    (sized_same e.one)
    (also_same t (λ q. sized_same (e.two q)) ∙ move _)
    (starts_same e.one)
    (also_same t (λ q. starts_same (e.two q)) ∙ move _)
    (fits_same e.one)
    (also_same t (λ q. fits_same (e.two q)) ∙ move _)
    (out_same a b n m e.shape e.stride)

-- ---- the samples

from-same : (b d : BlockShape) (p q : Ref) → b ≡ d → SameSize p q → AgreeOn (reach_of b p) p.lent q.lent
    → (r c : ℕ) → r < b.h → c < b.w → from_ref b p r c ≡ from_ref d q r c
unfolding from_ref
from-same b d p q e l agree r c rh cw =
    reach b p.from p.lent q.lent (record { width = ap to_n l.width; height = ap to_n l.height; samples = agree }) r c rh cw
    ∙ rw (e, l.from)

pub value_same : (a b : Call) → SameCalls a b → Agreeing reach_of a b → (r c : ℕ) → r < a.shape.h → c < a.shape.w
    → value a r c ≡ value b r c
unfolding value
value_same a b e g r c rh cw =
    blend_same a.shape.average _ _ _ _
    (from-same a.shape b.shape a.one b.one e.shape e.one g.one r c rh cw)
    (λ t. from-same a.shape b.shape a.two b.two e.shape (e.two t) (g.two t) r c rh cw)
    ∙ rw e.shape

-- references that are lent alike have one size
size_same : {p q : Ref} → Alike p q → SameSize p q
size_same e =
    record { width = ap (λ (g : PlaneGeom). g.width) e.geom; height = ap (λ (g : PlaneGeom). g.height) e.geom; from = e.from }

calls_same : (a b : Call) → AlikeCalls a b → SameCalls a b
calls_same a b e = record { shape = e.shape; stride = e.stride; one = size_same e.one; two = λ q. size_same (e.two q) }

-- ---- the output

-- two choices by equal numbers, whose first ways are equal where they are taken
pub cond_same : (x y z : List ℕ) (n m : ℕ) → n ≡ m → (n ≡ 0 → x ≡ y) → cond (eqb n 0) x z ≡ cond (eqb m 0) y z
cond_same x y z n m e h = rw (sym e) (by-test (eqb n 0) refl)
  where
    by-test : (t : Bool) → eqb n 0 ≡ t → cond t x z ≡ cond t y z
    by-test true q = h (eqb-true n 0 q)
    by-test false q = refl

paint_moved : (out : List ℕ) {s s' w w' h h' : ℕ} (f : ℕ → ℕ → ℕ) → s ≡ s' → w ≡ w' → h ≡ h' → paint out s w h f ≡ paint out s' w' h' f
paint_moved out f d e g = rw (d, e, g)

painted_same : (a b : Call) (out : List ℕ) → SameCalls a b → Agreeing reach_of a b
    → paint out a.stride a.shape.w a.shape.h (value a) ≡ paint out b.stride b.shape.w b.shape.h (value b)
painted_same a b out e agree =
    paint_same out a.stride a.shape.w a.shape.h _ _ (λ r c rh cw. value_same a b e agree r c rh cw)
    ∙ paint_moved out (value b) e.stride (ap (λ (s : BlockShape). s.w) e.shape) (ap (λ (s : BlockShape). s.h) e.shape)

after_same : (a b : Call) (out : List ℕ) (m : ℕ) → AlikeCalls a b → (Call.number_of a (length out) m ≡ 0 → Agreeing reach_of a b)
    → after a out m ≡ after b out m
unfolding after
after_same a b out m e agree =
    cond_same _ _ out _ _ (number_same a b (length out) m e) (λ z. painted_same a b out (calls_same a b e) (agree z))

-- a refused call needs no agreement at all
unread_if : (a b : Call) → AlikeCalls a b → (out room room2 : List ℕ) → length room ≡ length room2
    → (Call.number_of a (length out) (length room) ≡ 0 → Agreeing reach_of a b)
    → (n m : ℕ) (o p v w : List ℕ) → Outcome a out room n o v → Outcome b out room2 m p w → (n ≡ m) × (o ≡ p)
unread_if a b e out room room2 long agree n m o p v w x y = (
  x.number ∙ number_same a b (length out) (length room) e ∙ ap (Call.number_of b (length out)) long ∙ sym y.number,
  x.output ∙ after_same a b out (length room) e agree ∙ ap (after b out) long ∙ sym y.output,
)

-- THE THEOREM of block prediction
pub unread : (a b : Call) → AlikeCalls a b → Agreeing reach_of a b → (out room room2 : List ℕ) → length room ≡ length room2
    → (n m : ℕ) (o p v w : List ℕ) → Outcome a out room n o v → Outcome b out room2 m p w → (n ≡ m) × (o ≡ p)
unread a b e agree out room room2 long = unread_if a b e out room room2 long (λ z. agree)

-- what `block_reach` tells of a reference that passed its tests is the rectangle
told_is : (b : BlockShape) (p : Ref) → Legal b p → told_of b p ≡ reach_of b p
unfolding sized
told_is b p l = told b.w b.h p.lent.geom.width p.lent.geom.height p.from l.block l.plane l.from

-- and by what the call tells, whatever it tells of a block that is refused
pub unread_told : (a b : Call) → AlikeCalls a b → Agreeing told_of a b → (out room room2 : List ℕ) → length room ≡ length room2
    → (n m : ℕ) (o p v w : List ℕ) → Outcome a out room n o v → Outcome b out room2 m p w → (n ≡ m) × (o ≡ p)
unread_told a b e agree out room room2 long =
    unread_if a b e out room room2 long
    (λ z.
    let t = accepted a (length out) (length room) z in
    record {
      one = rw (told_is a.shape a.one t.one) at agree.one;
      two = λ q. rw (told_is a.shape a.two (t.two q)) at (agree.two q);
    })

-- where both are accepted, however each reference is lent
pub unread_parted : (a b : Call) → SameCalls a b → Agreeing reach_of a b → (out room room2 o p v w : List ℕ)
    → Outcome a out room 0 o v → Outcome b out room2 0 p w → o ≡ p
unread_parted a b e agree out room room2 o p v w x y =
    x.output ∙ after_taken a out (length room) (sym x.number) ∙ painted_same a b out e agree
    ∙ sym (y.output ∙ after_taken b out (length room2) (sym y.number))

-- where `block_reach` refuses a reference, so does the prediction
pub reach_refuses : (a : Call) (n m : ℕ) → ((told_of a.shape a.one).answer ≡ 0 → ⊥) → Call.number_of a n m ≡ 0 → ⊥
unfolding readable
reach_refuses a n m d z = d (ap (λ (r : Reach). r.answer) (told_is a.shape a.one (accepted a n m z).one))

pub reach_refuses_two : (a : Call) (n m : ℕ) → a.shape.average ≡ true → ((told_of a.shape a.two).answer ≡ 0 → ⊥)
    → Call.number_of a n m ≡ 0 → ⊥
unfolding readable
reach_refuses_two a n m q d z = d (ap (λ (r : Reach). r.answer) (told_is a.shape a.two ((accepted a n m z).two q)))
