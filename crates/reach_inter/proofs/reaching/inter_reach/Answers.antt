-- `reach_inter::reaching::inter_reach` meets its contract: refused by the table, or the rectangle from where the list leads. Assumes nothing.
use mathlib.Core.Path.{◌≡◌, ◌∙◌, ap}
use Prim.Native.Nat.{ℕ, ◌<◌}
use native.Mathlib.Omega.{arith}
use lib.IntN.{ℤ, pos}
use lib.Signed.{mag}
use mir.Syntax.{w32}
use mir.Val.{to_z, of_z}
use mir.Facts.{to_z-of_z}
use Rattle.std.proofs.lemmas.Result.{err_from_is_err_and}
use Rattle.base.specs.Position.{to_n}
use Rattle.base.proofs.Casts.{read_back}
use Rattle.selection.proofs.Parts.{list_number-byte}
use Rattle.planes.specs.declared.plane.PlaneGeom.{PlaneGeom}
use Rattle.judgement.proofs.Leading.{start_is}
use Rattle.reach_inter.proofs.Accepted.{passed, refused, start_taken, given}
use Rattle.reach_inter.proofs.reaching.inter_reach.Goals as goal

-- a side of the plane, read back
side : (z : ℤ) (k n : ℕ) → mag z < 2147483648 → z ≡ pos k → n ≡ to_n (to_z w32 (of_z w32 z)) → n ≡ k
side z k n h e d = rw (read_back z h, e) at d

pub returns-in_err-allowed : goal.returns-in_err-allowed
returns-in_err-allowed c =
    let x = c.args in
    let led = rw (to_z-of_z c.ranges.ref_width, to_z-of_z c.ranges.ref_height, c.from-list.ensures, list_number-byte c.args.second) at c.lead-led.ensures in
    let p = err_from_is_err_and c.from_residual.result c.from_residual.ensures.1 in
    rw (p.1, p.2) (refused x.args x.grid x.frame x.mvs x.second x.ref_width x.ref_height _ led _ c.in_err-allowed.ensures)

pub readable-requires-clause-sizes : goal.readable-requires-clause-sizes
readable-requires-clause-sizes c =
    let x = c.args in
    let led = rw (to_z-of_z c.ranges.ref_width, to_z-of_z c.ranges.ref_height, c.from-list.ensures, list_number-byte c.args.second) at c.lead-led.ensures in
    let plane = rw (to_z-of_z c.ranges.ref_width, to_z-of_z c.ranges.ref_height) at c.plane_geom-plane.ensures in
    let wide = side _ _ _ (omega (arith, c.struct_told-1.given)) (ap (λ (q : PlaneGeom). q.width) plane) c.natural.ensures in
    let high = side _ _ _ (omega (arith, c.struct_told-2-1.given)) (ap (λ (q : PlaneGeom). q.height) plane) c.natural-2.ensures in
    let ok = passed x.args x.grid x.frame x.mvs x.second x.ref_width x.ref_height _ led c.in_ok-allowed.ensures in
    omega (arith, ok.w, ok.h, ok.width, ok.height, wide, high)

pub readable-requires-clause-started : goal.readable-requires-clause-started
readable-requires-clause-started c =
    let x = c.args in
    let led = rw (to_z-of_z c.ranges.ref_width, to_z-of_z c.ranges.ref_height, c.from-list.ensures, list_number-byte c.args.second) at c.lead-led.ensures in
    start_taken x.args x.grid x.frame x.mvs x.second x.ref_width x.ref_height _ led c.in_ok-allowed.ensures _
    (start_is _ _ c.unwrap_or_default-from.ensures)

pub returns : goal.returns
returns c =
    let x = c.args in
    let led = rw (to_z-of_z c.ranges.ref_width, to_z-of_z c.ranges.ref_height, c.from-list.ensures, list_number-byte c.args.second) at c.lead-led.ensures in
    let plane = rw (to_z-of_z c.ranges.ref_width, to_z-of_z c.ranges.ref_height) at c.plane_geom-plane.ensures in
    let wide = side _ _ _ (omega (arith, c.struct_told-1.given)) (ap (λ (q : PlaneGeom). q.width) plane) c.natural.ensures in
    let high = side _ _ _ (omega (arith, c.struct_told-2-1.given)) (ap (λ (q : PlaneGeom). q.height) plane) c.natural-2.ensures in
    c.readable.ensures
    ∙ given x.args x.grid x.frame x.mvs x.second x.ref_width x.ref_height _ led c.in_ok-allowed.ensures _ _ _ wide high
    (start_is _ _ c.unwrap_or_default-from.ensures)
