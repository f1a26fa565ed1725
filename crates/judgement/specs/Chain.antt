-- Internal: what the code's chain of calls gives before it is known to be accepted. No definition that a caller reads cites this file;
-- proofs/Joined.antt joins it to those that do. Assumes nothing.
use Rattle.std.specs.Prelude.{ℕ, ◌≡◌, Bool, true, false, ◌&&◌, ◌||◌, cond, List, [], ◌∷◌, leb, eqb, pos, get_or, Result, Ok, Err}
use Rattle.base.specs.Answer.{unless, answer, BLOCK, GRID, FILTER, SIZE, START, SHORT, VECTOR}
use Rattle.base.specs.Number.{within}
use Rattle.base.specs.Refused.{told}
use Rattle.base.specs.Vector.{sixteenth}
use Rattle.base.specs.declared.refusal.Refusal.{Refusal}
use Rattle.base.specs.declared.units.Mv.{Mv}
use Rattle.base.specs.declared.units.Stepping.{Stepping}
use Rattle.vectors.specs.Select.{select_mv}
use Rattle.vectors.specs.Clamp.{clamp_mv}
use Rattle.vectors.specs.Scale.{scale_mv}
use Rattle.vectors.specs.declared.inter_mv.BlockGrid.{BlockGrid}
use Rattle.planes.specs.Plane.{Lent, read_rows}
use Rattle.judgement.specs.Whole.{Whole, scale_geom, number_of}
use Rattle.judgement.specs.declared.judging.InterPredArgs.{InterPredArgs}
use Rattle.judgement.specs.declared.judging.FrameGeom.{FrameGeom}
use Rattle.judgement.specs.declared.judging.RefGeom.{RefGeom}
use Rattle.judgement.specs.declared.judging.Led.{Led}
use Rattle.judgement.specs.declared.judging.Judged.{Judged}

-- what the three calls of one list are told, and where the block starts
pub record Lead : Type 0 where
  pub select : ℕ
  pub clamp : ℕ
  pub scale : ℕ
  pub from : Stepping

-- where a block starts that leads nowhere
abbrev pub nowhere : Stepping
nowhere =
    record {
      start_x = sixteenth (pos 0);
      start_y = sixteenth (pos 0);
      step_x = sixteenth (pos 0);
      step_y = sixteenth (pos 0);
    }

abbrev pub start : Result Stepping Refusal → Stepping
start (Ok s) = s
start (Err r) = nowhere

-- the code's three answers, in these terms
abbrev pub numbers : Led → Lead
numbers l = record { select = told l.select; clamp = told l.clamp; scale = told l.scale; from = start l.scale }

-- the three calls of a list whose vectors stand for both lists
unfoldable pub lead : InterPredArgs → BlockGrid → FrameGeom → RefGeom → List Mv → Lead
lead b g f s l =
    let v = select_mv (l ∷ l ∷ []) false b.plane g.mi_size b.block f.subsampling_x f.subsampling_y in
    let p = clamp_mv g v.mv b.plane f.subsampling_x f.subsampling_y in
    let q = scale_mv (scale_geom f s) b.plane b.x b.y p.mv in
    record {
      select = v.answer;
      clamp = p.answer;
      scale = q.answer;
      from = record { start_x = q.start_x; start_y = q.start_y; step_x = q.step_x; step_y = q.step_y };
    }

-- no list at all: accepted, and nowhere
abbrev none : Lead
none = record { select = 0; clamp = 0; scale = 0; from = nowhere }

unfoldable pub lead_also : InterPredArgs → BlockGrid → FrameGeom → RefGeom → List Mv → Lead
lead_also b g f s l = cond b.average (lead b g f s l) none

-- row 0 can be read
unfoldable pub lends : Lent → Bool
lends p = eqb (answer (read_rows p 0)) 0

unfoldable pub kind : ℕ → ℕ → Bool
kind filter depth = leb filter 3 && (eqb depth 8 || eqb depth 10 || eqb depth 12)

-- a call answered something other than the number
unfoldable pub other_than : ℕ → ℕ → Bool
other_than number given = cond (eqb given number) false true

unfoldable pub refusal : InterPredArgs → Lead → Lead → Bool → ℕ
refusal b one two lent =
    unless BLOCK (other_than BLOCK one.select && within 1 64 b.w && within 1 64 b.h)
    (unless GRID (other_than GRID one.clamp)
    (unless FILTER (kind b.filter b.depth)
    (unless SIZE (other_than SIZE one.scale && other_than SIZE two.scale)
    (unless START (other_than START one.scale)
    (unless SHORT lent
    (unless VECTOR (other_than VECTOR one.select && other_than VECTOR two.select) 0))))))

-- a call's two lists
abbrev pub lead_one : Whole → Lead
lead_one a = lead a.args a.grid a.frame a.one.geom (get_or a.mvs 0 [])

abbrev pub lead_two : Whole → Lead
lead_two a = lead_also a.args a.grid a.frame a.two.geom (get_or a.mvs 1 [])

-- what a call is told, accepted or refused: its number, and where each list leads. In an accepted call that is the definition's `stepping_of`
-- (`told_one`, `told_two` in proofs/Accepted.antt)
pub record Judgement (a : Whole) (n m : ℕ) (r : Judged) : Type 0 where
  pub number : told r.answer ≡ number_of a n m
  pub from : r.from ≡ (lead_one a).from
  pub from2 : r.from2 ≡ (lead_two a).from
