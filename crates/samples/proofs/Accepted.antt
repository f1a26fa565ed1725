-- What a number of 0 says, and the output after a call. Assumes nothing.
use mathlib.Core.Path.{◌≡◌, refl, sym, ◌∙◌}
use mathlib.Core.Bool.{Bool, true, false}
use mathlib.Core.List.{List}
use Prim.Native.Nat.{ℕ}
use borrow.Author.Tests.{leb-true, ne_eqb}
use lib.ListN.{length}
use Rattle.base.specs.Paint.{paint}
use Rattle.base.specs.Refused.{number}
use Rattle.base.specs.declared.refusal.Refusal.{Refusal}
use Rattle.base.proofs.Answered.{unless_zero}
use Rattle.base.proofs.Numbered.{not_accepted}
use Rattle.base.proofs.Tests.{clash, and_both, within_both}
use Rattle.blocks.specs.Passed.{Taken}
use Rattle.samples.specs.Call.{Call, also, value, number_of, out_fits, after, Outcome}

-- what a number of 0 says: every test was passed
also_true : (average t : Bool) → also average t ≡ true → average ≡ true → t ≡ true
also_true true t e q = e
also_true false t e q = clash q

pub accepted : (a : Call) (n m : ℕ) → number_of a n m ≡ 0 → Taken a n m
unfolding number_of out_fits
accepted a n m e =
    let r1 = unless_zero 0 _ _ e in
    let r4 = unless_zero 3 _ _ r1.1 in
    let r5 = unless_zero 4 _ _ r4.1 in
    let r6 = unless_zero 5 _ _ r5.1 in
    let r7 = unless_zero 6 _ _ r6.1 in
    let size = and_both _ _ r5.0 in
    let start = and_both _ _ r6.0 in
    let fit = and_both _ _ r7.0 in
    let bands = and_both _ _ fit.0 in
    let room = and_both _ _ fit.1 in
    let out = and_both _ _ room.0 in
    record {
      one = record { block = r1.0; filter = r4.0; plane = size.0; from = start.0; bands = bands.0 };
      two = λ q.
          record {
            block = r1.0;
            filter = r4.0;
            plane = also_true a.shape.average _ size.1 q;
            from = also_true a.shape.average _ start.1 q;
            bands = also_true a.shape.average _ bands.1 q;
          };
      apart = (within_both a.shape.w 131072 a.stride out.0).0;
      out = out.1;
      room = leb-true 8576 m room.1;
    }

-- the output after a call, accepted or refused
pub after_taken : (a : Call) (out : List ℕ) (m : ℕ) → number_of a (length out) m ≡ 0
    → after a out m ≡ paint out a.stride a.shape.w a.shape.h (value a)
unfolding after
after_taken a out m e = simp e

pub after_refused : (a : Call) (out : List ℕ) (m : ℕ) → (number_of a (length out) m ≡ 0 → ⊥) → after a out m ≡ out
unfolding after
after_refused a out m d = simp (ne_eqb _ 0 d)

-- what a call may do: refused it leaves all as it was, accepted it paints its block
pub refused : (a : Call) (out room : List ℕ) (r : Refusal) → number r ≡ number_of a (length out) (length room) → Outcome a out room (number r) out room
refused a out room r e =
    record { number = e; output = sym (after_refused a out (length room) (λ z. not_accepted r (e ∙ z))); kept = λ d. refl }

pub painted : (a : Call) (out room out' room' : List ℕ) → 0 ≡ number_of a (length out) (length room)
    → out' ≡ paint out a.stride a.shape.w a.shape.h (value a) → Outcome a out room 0 out' room'
painted a out room out' room' e p =
    record { number = e; output = p ∙ sym (after_taken a out (length room) (sym e)); kept = λ d. absurd (d (sym e)) }
