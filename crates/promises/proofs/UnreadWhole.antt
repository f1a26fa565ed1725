-- UNREAD for the whole prediction: calls that differ in nothing but samples outside the rectangle that the part inside the destination can read, or
-- the whole block, or that `inter_reach` tells, give the same number and the same destination. Assumes nothing.
use mathlib.Core.Path.{◌≡◌, refl, sym, ap, subst, ◌∙◌}
use mathlib.Core.Bool.{Bool, true, false, ◌&&◌}
use mathlib.Core.List.{List, ◌++◌}
use Prim.Native.Nat.{ℕ}
use native.Mathlib.Nat.{min-le_left}
use borrow.Author.Tests.{le-leb}
use lib.ListN.{length, take, drop}
use Rattle.base.specs.Answer.{unless}
use Rattle.base.specs.Number.{within}
use Rattle.base.specs.Paint.{on_part}
use Rattle.base.proofs.Painted.{paint_same}
use Rattle.planes.specs.Plane.{fits}
use Rattle.reach.specs.Rectangle.{In, readable}
use Rattle.reach.specs.declared.reaching.Reach.{Reach}
use Rattle.reach.proofs.Places.{in_more}
use Rattle.samples.specs.Call.{ref}
use Rattle.judgement.specs.declared.judging.RefGeom.{RefGeom}
use Rattle.judgement.proofs.Accepted.{Accepted, accepted, Looked, look_one, look-two}
use Rattle.reach_inter.proofs.Accepted.{told}
use Rattle.prediction.specs.Predict as Predict
use Rattle.prediction.specs.Predict.{Source, Whole, whole, plane_of, shape_of, call_of, stepping, stepping_of, extent, allowed_ref}
use Rattle.prediction.specs.Predict.{first, painted, after, Outcome}
use Rattle.prediction.proofs.Ready.{after_taken}
use Rattle.promises.specs.Unread.{SameSize, SameCalls, SameArgs, AlikeSources, AlikeWholes, SizedAlike, SameWholes, AgreeingWholes}
use Rattle.promises.specs.Unread.{whole_reach, inside_reach, whole_told}
use Rattle.promises.proofs.Unread.{also_same, value_same, cond_same}

-- ---- calls that differ in their references alone

-- tables whose tests of the references are equal
rows_same : (t1 t2 t4 t6 d k t9 : Bool) {s s' s2 s2' x x' x2 x2' : Bool} → s ≡ s' → s2 ≡ s2' → x ≡ x' → x2 ≡ x2'
    → unless 1 t1 (unless 2 t2 (unless 4 t4 (unless 5 (s && s2) (unless 6 t6 (unless 7 (x && x2 && d && k) (unless 9 t9 0))))))
    ≡ unless 1 t1 (unless 2 t2 (unless 4 t4 (unless 5 (s' && s2') (unless 6 t6 (unless 7 (x' && x2' && d && k) (unless 9 t9 0))))))
rows_same t1 t2 t4 t6 d k t9 es es2 ex ex2 = rw (es, es2, ex, ex2)

-- where both paint, they paint the same, however the references are lent
module _ (a : Whole) (one two : Source) (l1 : SizedAlike a.one one) (l2 : a.args.average ≡ true → SizedAlike a.two two) where
  abbrev other : Whole
  other = whole a.args a.grid a.frame a.mvs one two a.dest

  size_same : (second : Bool) (s t : Source) → SizedAlike s t
      → SameSize (ref (plane_of a s) (stepping_of a second s)) (ref (plane_of other t) (stepping_of other second t))
  unfolding stepping
  size_same second s t l = record { width = rw l.width; height = rw l.height; from = rw (l.width, l.height) }

  calls_same : SameCalls (call_of a) (call_of other)
  calls_same = record { shape = refl; stride = refl; one = size_same false a.one one l1; two = λ q. size_same true a.two two (l2 q) }

  painted_same : (out : List ℕ) → AgreeingWholes inside_reach a other → painted a out ≡ painted other out
  unfolding painted on_part
  painted_same out agree =
      ap (λ (l : List ℕ). take (first a) out ++ l)
      (paint_same (drop (first a) out) a.dest.width (shape_of a).w (shape_of a).h _ _
      (λ r c rh cw. value_same (call_of a) (call_of other) calls_same (record { one = agree.one; two = λ q. agree.two q }) r c rh cw))

sized_alike : {s t : Source} → AlikeSources s t → SizedAlike s t
sized_alike l =
    record { width = ap (λ (g : RefGeom). g.frame_width) l.geom; height = ap (λ (g : RefGeom). g.frame_height) l.geom }

module _ (a : Whole) (one two : Source) (l1 : AlikeSources a.one one) (l2 : a.args.average ≡ true → AlikeSources a.two two) where
  abbrev changed : Whole
  changed = whole a.args a.grid a.frame a.mvs one two a.dest

  fits_same : (s t : Source) → AlikeSources s t → fits (plane_of a s) ≡ fits (plane_of changed t)
  unfolding fits
  fits_same s t l = rw (l.geom, l.upper, l.lower)

  number_same : (n m : ℕ) → Predict.number_of a n m ≡ Predict.number_of changed n m
  unfolding Predict.number_of
  number_same n m =
      rows_same _ _ _ _ _ _ _
      (ap (allowed_ref a.frame) l1.geom)
      (also_same a.args.average (λ q. ap (allowed_ref a.frame) (l2 q).geom))
      (fits_same a.one one l1)
      (also_same a.args.average (λ q. fits_same a.two two (l2 q)))

  after_same : (out : List ℕ) (m : ℕ) → (Predict.number_of a (length out) m ≡ 0 → AgreeingWholes inside_reach a changed)
      → after a out m ≡ after changed out m
  unfolding after
  after_same out m agree =
      cond_same _ _ out _ _ (number_same (length out) m)
      (λ z. painted_same a one two (sized_alike l1) (λ q. sized_alike (l2 q)) out (agree z))

  both : (out room room2 : List ℕ) → length room ≡ length room2
      → (Predict.number_of a (length out) (length room) ≡ 0 → AgreeingWholes inside_reach a changed)
      → (n m : ℕ) (o p v w : List ℕ) → Outcome a out room n o v → Outcome changed out room2 m p w → (n ≡ m) × (o ≡ p)
  both out room room2 long agree n m o p v w x y = (
    x.number ∙ number_same (length out) (length room) ∙ ap (Predict.number_of changed (length out)) long ∙ sym y.number,
    x.output ∙ after_same out (length room) agree ∙ ap (after changed out) long ∙ sym y.output,
  )

-- ---- calls whose other arguments are equal

rebuilt : (a b : Whole) → SameArgs a b → whole a.args a.grid a.frame a.mvs b.one b.two a.dest ≡ b
rebuilt a b e = rw (e.args, e.grid, e.frame, e.mvs, e.dest)

-- a refused call needs no agreement at all
unread_if : (a b : Whole) → AlikeWholes a b → (out room room2 : List ℕ) → length room ≡ length room2
    → (Predict.number_of a (length out) (length room) ≡ 0 → AgreeingWholes inside_reach a b)
    → (n m : ℕ) (o p v w : List ℕ) → Outcome a out room n o v → Outcome b out room2 m p w → (n ≡ m) × (o ≡ p)
unread_if a b e out room room2 long agree n m o p v w x y =
    subst
    (λ (c : Whole).
    (Predict.number_of a (length out) (length room) ≡ 0 → AgreeingWholes inside_reach a c) → Outcome c out room2 m p w → (n ≡ m) × (o ≡ p))
    (rebuilt a b e.same)
    (λ g z. both a b.one b.two e.one e.two out room room2 long g n m o p v w x z)
    agree y

-- by the rectangle of the part inside the destination
pub unread_inside : (a b : Whole) → AlikeWholes a b → AgreeingWholes inside_reach a b → (out room room2 : List ℕ) → length room ≡ length room2
    → (n m : ℕ) (o p v w : List ℕ) → Outcome a out room n o v → Outcome b out room2 m p w → (n ≡ m) × (o ≡ p)
unread_inside a b e agree out room room2 long = unread_if a b e out room room2 long (λ z. agree)

-- which lies in that of the whole block
inside_in : (a b : Whole) → AgreeingWholes whole_reach a b → AgreeingWholes inside_reach a b
unfolding stepping
inside_in a b g =
    record {
      one = λ v u i. g.one v u (more false a.one v u i);
      two = λ q v u i. g.two q v u (more true a.two v u i);
    }
  where
    more : (second : Bool) (s : Source) (v u : ℕ) → In (inside_reach a second s) v u → In (whole_reach a second s) v u
    more second s v u i =
        in_more
        (extent a.args.plane a.frame.subsampling_x s.geom.frame_width)
        (extent a.args.plane a.frame.subsampling_y s.geom.frame_height)
        (stepping_of a second s) (shape_of a).w (shape_of a).h a.args.w a.args.h v u (min-le_left _ _) (min-le_left _ _) i

-- THE THEOREM of the whole prediction
pub unread_whole : (a b : Whole) → AlikeWholes a b → AgreeingWholes whole_reach a b → (out room room2 : List ℕ) → length room ≡ length room2
    → (n m : ℕ) (o p v w : List ℕ) → Outcome a out room n o v → Outcome b out room2 m p w → (n ≡ m) × (o ≡ p)
unread_whole a b e agree = unread_inside a b e (inside_in a b agree)

-- what `inter_reach` tells of a list of an accepted call is the rectangle
told_is : (a : Whole) (n m : ℕ) (second : Bool) (s : Source) → Accepted a n m
    → Looked a.args a.grid a.frame a.mvs second s.geom → whole_told a second s ≡ whole_reach a second s
unfolding within allowed_ref
told_is a n m second s ok look =
    told a.args a.grid a.frame a.mvs second s.geom.frame_width s.geom.frame_height
    (record { block = look.block; grid = look.grid; size = look.size; place = look.place; vectors = look.vectors })
    (rw (le-leb 1 _ ok.w.0, le-leb _ 64 ok.w.1, le-leb 1 _ ok.h.0, le-leb _ 64 ok.h.1))

-- and by what the call tells, whatever it tells of a block that is refused
pub unread_whole_told : (a b : Whole) → AlikeWholes a b → AgreeingWholes whole_told a b → (out room room2 : List ℕ) → length room ≡ length room2
    → (n m : ℕ) (o p v w : List ℕ) → Outcome a out room n o v → Outcome b out room2 m p w → (n ≡ m) × (o ≡ p)
unread_whole_told a b e agree out room room2 long =
    unread_if a b e out room room2 long
    (λ z.
    let ok = accepted a (length out) (length room) z in
    inside_in a b
    (record {
      one = rw (told_is a _ _ false a.one ok (look_one a _ _ ok)) at agree.one;
      two = λ q. rw (told_is a _ _ true a.two ok (look-two a _ _ ok q)) at (agree.two q);
    }))

-- where both are accepted, however each reference is lent
pub unread_whole_parted : (a b : Whole) → SameWholes a b → AgreeingWholes whole_reach a b → (out room room2 o p v w : List ℕ)
    → Outcome a out room 0 o v → Outcome b out room2 0 p w → o ≡ p
unread_whole_parted a b e agree out room room2 o p v w x y =
    subst
    (λ (c : Whole). AgreeingWholes whole_reach a c → Outcome c out room2 0 p w → o ≡ p)
    (rebuilt a b e.same)
    (λ g z.
    x.output ∙ after_taken a out (length room) (sym x.number)
    ∙ painted_same a b.one b.two e.one e.two out (inside_in a _ g)
    ∙ sym (z.output ∙ after_taken _ out (length room2) (sym z.number)))
    agree y

-- where `inter_reach` refuses list 0, so does the prediction; list 1, when averaging
pub inter_reach_refuses : (a : Whole) (n m : ℕ) → ((whole_told a false a.one).answer ≡ 0 → ⊥) → Predict.number_of a n m ≡ 0 → ⊥
unfolding readable
inter_reach_refuses a n m d z =
    let ok = accepted a n m z in
    d (ap (λ (r : Reach). r.answer) (told_is a n m false a.one ok (look_one a n m ok)))

pub inter_reach_refuses_two : (a : Whole) (n m : ℕ) → a.args.average ≡ true → ((whole_told a true a.two).answer ≡ 0 → ⊥)
    → Predict.number_of a n m ≡ 0 → ⊥
unfolding readable
inter_reach_refuses_two a n m q d z =
    let ok = accepted a n m z in
    d (ap (λ (r : Reach). r.answer) (told_is a n m true a.two ok (look-two a n m ok q)))
