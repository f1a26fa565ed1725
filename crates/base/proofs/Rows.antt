-- A table of tests, left by `?` at the first that fails: what is told is the table's answer. Assumes nothing.
use Rattle.std.proofs.Common.{◌≡◌, ℕ, Bool, true, false, Result, Ok, Err, refl, sym, ap, ◌∙◌, rules}
use Rattle.std.specs.Result.{IsErrAnd}
use Rattle.std.proofs.lemmas.Result.{err_from_is_err_and}
use Rattle.base.specs.Answer as Answer
use Rattle.base.specs.Refused.{number, unless, told}
use Rattle.base.specs.declared.refusal.Refusal.{Refusal}

-- the last row
pub last : (r : Refusal) (t : Bool) → told (unless r t) ≡ Answer.unless (number r) t 0
unfolding Answer.unless
last r true = refl
last r false = refl

-- past a row that passed
pub past : (r : Refusal) (t : Bool) (rest : ℕ) → unless r t ≡ Ok tt → rest ≡ Answer.unless (number r) t rest
unfolding Answer.unless
past r true rest e = refl
past r false rest e = absurd (cc)

-- at a row that failed
pub left : (r : Refusal) (t : Bool) (rest : ℕ) (x : Refusal) → unless r t ≡ Err x → number x ≡ Answer.unless (number r) t rest
unfolding Answer.unless
left r true rest x e = absurd (cc)
left r false rest x e = ap number (cc)

-- what `?` hands on is the refusal itself
pub handed : {A : Type 0} (k : Result A Refusal) (x : Refusal) → IsErrAnd k (λ y. y ≡ x) → told k ≡ number x
handed k x e = let p = err_from_is_err_and k e in rw (p.1, p.2)
