-- What the calls of mv_ref.rt promise beside their contracts: each refusal is the lowest number that applies, and each call has one outcome.
-- Assumes nothing.
use mathlib.Core.Path.{◌≡◌, refl, sym, ◌∙◌}
use mathlib.Core.Bool.{Bool}
use mathlib.Core.List.{List}
use Prim.Native.Nat.{ℕ}
use lib.IntN.{ℤ}
use Rattle.base.specs.Answer.{Lowest}
use Rattle.base.specs.declared.units.Mv.{Mv}
use Rattle.base.proofs.Answered.{lowest}
use Rattle.records.specs.Tables.{Tables}
use Rattle.records.specs.declared.geometry.MvRefGeometry.{MvRefGeometry}
use Rattle.lists.specs.MvRef.{search_rows, find_mv_refs, append_rows, append_mvs, best_rows, best_mvs}
use Rattle.lists.specs.declared.mv_ref.MvRefs.{MvRefs}
use Rattle.lists.specs.declared.mv_ref.MvPair.{MvPair}

pub find_lowest : (t : Tables) (g : MvRefGeometry) (target block : ℤ) (on : Bool) → Lowest (search_rows t g target block on)
find_lowest t g target block on = lowest (search_rows t g target block on) refl

pub append_lowest : (t : Tables) (g : MvRefGeometry) (target : ℤ) (b : ℕ) (m : List Mv) (on : Bool) → Lowest (append_rows t g target b m on)
append_lowest t g target b m on = lowest (append_rows t g target b m on) refl

pub best_lowest : (g : MvRefGeometry) (first second : Mv) → Lowest (best_rows g first second)
best_lowest g first second = lowest (best_rows g first second) refl

pub find_one : (t : Tables) (g : MvRefGeometry) (target block : ℤ) (bias : List Bool) (on : Bool) (r s : MvRefs)
    → r ≡ find_mv_refs t g target block bias on → s ≡ find_mv_refs t g target block bias on → r ≡ s
find_one t g target block bias on r s e f = e ∙ sym f

pub append_one : (t : Tables) (g : MvRefGeometry) (target : ℤ) (b : ℕ) (m : List Mv) (bias : List Bool) (on : Bool) (r s : MvPair)
    → r ≡ append_mvs t g target b m bias on → s ≡ append_mvs t g target b m bias on → r ≡ s
append_one t g target b m bias on r s e f = e ∙ sym f

pub best_one : (g : MvRefGeometry) (first second : Mv) (allowed : Bool) (r s : MvPair)
    → r ≡ best_mvs g first second allowed → s ≡ best_mvs g first second allowed → r ≡ s
best_one g first second allowed r s e f = e ∙ sym f
