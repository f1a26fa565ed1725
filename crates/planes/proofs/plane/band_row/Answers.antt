-- `planes::plane::band_row` meets its contract: the row is inside the band. Assumes nothing.
use mathlib.Core.Path.{refl}
use Prim.Native.Nat.{◌+◌, ◌*◌, ◌≤◌}
use native.Mathlib.Nat.{add-sub_cancel_left}
use native.Mathlib.Omega.{arith}
use lib.ListN.{length, length-take, length-drop}
use Rattle.planes.proofs.Fitting.{holds_row}
use Rattle.planes.proofs.plane.band_row.Goals as goal
use Rattle.planes.proofs.plane.band_row.Goals.{Start as AtStart}

inside : (c : AtStart) → c.args.y * c.args.stride + c.args.w ≤ length c.args.band.now
inside c = let a = c.args in holds_row a.rows a.stride a.w (length a.band.now) a.y c.requires.held c.requires.inside

pub overflow_mul-first : goal.overflow_mul-first
overflow_mul-first c = omega (arith, inside c)

pub overflow_add-result : goal.overflow_add-result
overflow_add-result c = omega (arith, inside c)

pub offset_bounds-band-first : goal.offset_bounds-band-first
offset_bounds-band-first c = omega (arith, inside c)

pub slice_bounds-result-end : goal.slice_bounds-result-end
slice_bounds-result-end c = omega (arith, inside c)

pub returns : goal.returns
returns c =
    let inside : c.args.y * c.args.stride + c.args.w ≤ length c.args.band.now = let a = c.args in
    holds_row a.rows a.stride a.w (length a.band.now) a.y c.requires.held c.requires.inside in
    (rw add-sub_cancel_left, simp (add-sub_cancel_left, length-take, length-drop) (omega (arith, inside)), refl)
