-- Why a call is refused, and the number that tells it: document 01, 'Answer numbers'. Assumes nothing.
use Rattle.std.specs.Prelude.{ℕ, Bool, cond, Result, Ok, Err}
use Rattle.base.specs.Answer as Answer
use Rattle.base.specs.declared.refusal.Refusal.{Refusal}
use Rattle.base.specs.declared.refusal.Refusal.TheVariants.{Block, Grid, Target, Filter, Size, Start, Short, Record, Vector}

abbrev pub number : Refusal → ℕ
number Block = Answer.BLOCK
number Grid = Answer.GRID
number Target = Answer.TARGET
number Filter = Answer.FILTER
number Size = Answer.SIZE
number Start = Answer.START
number Short = Answer.SHORT
number Record = Answer.RECORD
number Vector = Answer.VECTOR

-- a row of a call's table that stands first: refused by its number unless its test passes
abbrev pub unless : Refusal → Bool → Result Unit Refusal
unless r passes = cond passes (Ok tt) (Err r)

-- the number of an answer: 0 where the call was accepted
abbrev pub told : {A : Type 0} → Result A Refusal → ℕ
told (Ok x) = Answer.ACCEPTED
told (Err r) = number r
