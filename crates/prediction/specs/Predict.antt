-- A call of the whole prediction and what it writes: the standard's 8.5.2, and document 01, 'Samples'. What it is handed and told stands below, in
-- `judgement`. Assumes nothing.
use Rattle.std.specs.Prelude.{ℕ, ◌+◌, ◌*◌, ◌≡◌, true, false, cond, List, eqb, length}
use Rattle.base.specs.Position.{to_n}
use Rattle.base.specs.Paint.{paint, on_part}
use Rattle.samples.specs.Call.{Call, call, ref, value}
use Rattle.judgement.specs.declared.judging.InterPredArgs.{InterPredArgs}
use Rattle.judgement.specs.declared.judging.DestGeom.{DestGeom}
pub use Rattle.judgement.specs.Whole.{Source, source, Whole, whole, plane_geom, plane_of}
pub use Rattle.judgement.specs.Whole.{scale_geom, stepping_of, count_inside, shape_in, shape_of, predict_rows}
unfoldable pub use Rattle.judgement.specs.Whole.{extent, stepping, allowed_ref, dest_fits, block_ok, number_of}

-- 8.5.2, step 5: the block prediction of the part inside, its reference 0 from list 0 and its reference 1 from list 1
abbrev pub call_of : Whole → Call
call_of a =
    call (shape_of a) (ref (plane_of a a.one) (stepping_of a false a.one)) (ref (plane_of a a.two) (stepping_of a true a.two)) a.dest.width

-- the place of the block's first sample in the destination
abbrev pub first_in : InterPredArgs → DestGeom → ℕ
first_in b d = to_n b.y * d.width + to_n b.x

abbrev pub first : Whole → ℕ
first a = first_in a.args a.dest

-- the destination with the part of the block inside it painted; "a block wholly beyond it is accepted and writes nothing"
unfoldable pub painted : Whole → List ℕ → List ℕ
painted a out =
    on_part (first a) (λ (l : List ℕ). paint l a.dest.width (shape_of a).w (shape_of a).h (value (call_of a))) out

-- the destination after a call: painted where it is accepted, as it was where it is refused
unfoldable pub after : Whole → List ℕ → ℕ → List ℕ
after a out m = cond (eqb (number_of a (length out) m) 0) (painted a out) out

-- what a call may do: the number, the destination; the room is open after an accepted call and as it was after a refused one
pub record Outcome (a : Whole) (out room : List ℕ) (r : ℕ) (out' room' : List ℕ) : Type 0 where
  pub number : r ≡ number_of a (length out) (length room)
  pub output : out' ≡ after a out (length room)
  pub kept : (number_of a (length out) (length room) ≡ 0 → ⊥) → room' ≡ room
