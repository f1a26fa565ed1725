-- A refusal's number is never the answer of an accepted call. Assumes nothing.
use mathlib.Core.Path.{◌≡◌, refl, sym, ◌∙◌}
use mathlib.Core.Bool.{true, false}
use borrow.Author.Tests.{eqb-false}
use lib.Dec.{eqb}
use Rattle.std.specs.Prelude.{Result, Ok, Err}
use Rattle.base.specs.Refused.{number, told}
use Rattle.base.specs.declared.refusal.Refusal.{Refusal}
use Rattle.base.specs.declared.refusal.Refusal.TheVariants.{Block, Grid, Target, Filter, Size, Start, Short, Record, Vector}

pub not_zero : (r : Refusal) → eqb (number r) 0 ≡ false
not_zero Block = refl
not_zero Grid = refl
not_zero Target = refl
not_zero Filter = refl
not_zero Size = refl
not_zero Start = refl
not_zero Short = refl
not_zero Record = refl
not_zero Vector = refl

pub not_accepted : (r : Refusal) → number r ≡ 0 → ⊥
not_accepted r = eqb-false (number r) 0 (not_zero r)
