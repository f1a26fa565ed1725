-- What crosses the C boundary in another form than a call takes or gives it: a block's vectors, and the row read. Assumes nothing.
use Rattle.std.specs.Prelude.{ℕ, cond, List, [], ◌∷◌, eqb}
use Rattle.base.specs.Answer.{answer}
use Rattle.base.specs.declared.units.Mv.{Mv}
use Rattle.planes.specs.Plane.{Lent, read_rows, width_of, above, first_of}
use Rattle.planes.specs.declared.plane.PlaneGeom.{PlaneGeom}
use Rattle.host.specs.declared.samples_c.RowPlace.{RowPlace}
use Rattle.host.specs.declared.vectors_c.BlockMvs.{BlockMvs}

-- list, then sub-block
abbrev pub lists : BlockMvs → List (List Mv)
lists m = m.list0 ∷ m.list1 ∷ []

-- where an accepted row y stands, as planes/specs/Plane.antt has it: the band as 0 (upper) or 1, its first sample there, how many it has
unfoldable pub row_spot : PlaneGeom → ℕ → RowPlace
row_spot g y = record { answer = 0; band = cond (above g y) 0 1; first = first_of g y; samples = width_of g }

-- the row read: its answer, and the place of the row where it is accepted
unfoldable pub row_place : Lent → ℕ → RowPlace
row_place p y =
    let no = answer (read_rows p y) in cond (eqb no 0) (row_spot p.geom y) (record { answer = no; band = 0; first = 0; samples = 0 })
