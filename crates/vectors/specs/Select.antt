-- The vector that a plane takes, or the refusal: the standard's 8.5.2.1. What the vector is made of stands below, in `selection`. Assumes nothing.
use Rattle.std.specs.Prelude.{ℕ, Bool, ◌&&◌, cond, List, [], ◌∷◌, leb, eqb, Result, Ok, Err}
use Rattle.base.specs.Answer.{Row, row, answer, BLOCK, VECTOR}
use Rattle.base.specs.Refused.{number}
use Rattle.base.specs.Vector.{zero_mv}
use Rattle.base.specs.declared.refusal.Refusal.{Refusal}
use Rattle.base.specs.declared.units.Mv.{Mv}
use Rattle.selection.specs.BlockMvs.{BlockMvs, legal_block}
use Rattle.vectors.specs.declared.inter_mv.SelectedMv.{SelectedMv}
pub use Rattle.selection.specs.Select.{list_number}
unfoldable pub use Rattle.selection.specs.Select.{halved, quartered, pair, quad, all_four, own_vector, partner_off, partnered, chosen}

-- row 1: "block size above 12", "sub-block not -1..3 in the search or 0..3 elsewhere", "plane above 2", "a partner sub-block that doesn't exist"; row 9
abbrev pub select_rows : BlockMvs → ℕ → ℕ → ℕ → Bool → Bool → List Row
select_rows m plane size b sx sy =
    row BLOCK (leb size 12 && leb b 3 && leb plane 2 && partnered plane size b sx sy)
    ∷ row VECTOR (legal_block m)
    ∷ []

unfoldable pub select_mv : BlockMvs → Bool → ℕ → ℕ → ℕ → Bool → Bool → SelectedMv
select_mv m second plane size b sx sy =
    let no = answer (select_rows m plane size b sx sy) in
    record { answer = no; mv = cond (eqb no 0) (chosen m (list_number second) plane size b sx sy) zero_mv }

-- an answer as C takes it: a refusal's number beside zeros
abbrev pub selected : Result Mv Refusal → SelectedMv
selected (Ok v) = record { answer = 0; mv = v }
selected (Err r) = record { answer = number r; mv = zero_mv }
