-- `passes::passes::straight` meets its contract: a rectangle inside the plane, in one of its bands. Assumes nothing.
use Prim.Native.Nat.{◌-◌}
use native.Mathlib.Nat.{le_refl, sub-le}
use native.Mathlib.Omega.{arith}
use Rattle.planes.specs.Seen.{seen}
use Rattle.passes.proofs.Copied.{inside, near, in_upper, in_lower}
use Rattle.passes.proofs.passes.straight.Goals as goal

pub overflow_sub-d : goal.overflow_sub-d
overflow_sub-d c = (inside _ _ _ _ _ _ c.unheld.ensures c.unheld-2.ensures c.if-unheld.true).0.0

pub overflow_sub-e : goal.overflow_sub-e
overflow_sub-e c = (inside _ _ _ _ _ _ c.unheld.ensures c.unheld-2.ensures c.if-unheld.true).1.0

pub overflow_mul-result : goal.overflow_mul-result
overflow_mul-result c =
    let a = c.args in
    let all = inside _ _ _ _ _ _ c.unheld.ensures c.unheld-2.ensures c.if-unheld.true in
    let small = near (seen a.plane) a.b a.y0 a.w a.n all a.plane.hold (a.y0 - 200003) (omega (arith, c.requires)) (le_refl _) in
    omega (arith, small)

pub overflow_add-result : goal.overflow_add-result
overflow_add-result c =
    let a = c.args in
    let all = inside _ _ _ _ _ _ c.unheld.ensures c.unheld-2.ensures c.if-unheld.true in
    let small = near (seen a.plane) a.b a.y0 a.w a.n all a.plane.hold (a.y0 - 200003) (omega (arith, c.requires)) (le_refl _) in
    omega (arith, small, c.requires)

pub returns-then-e-n-clause-stands : goal.returns-then-e-n-clause-stands
returns-then-e-n-clause-stands c =
    let a = c.args in
    in_upper (seen a.plane) a.b a.y0 a.w a.n (inside _ _ _ _ _ _ c.unheld.ensures c.unheld-2.ensures c.if-unheld.true) a.plane.hold c.if-e-n.true

pub overflow_mul-result-then-plane-e : goal.overflow_mul-result-then-plane-e
overflow_mul-result-then-plane-e c =
    let a = c.args in
    let all = inside _ _ _ _ _ _ c.unheld.ensures c.unheld-2.ensures c.if-unheld.true in
    let small = near (seen a.plane) a.b a.y0 a.w a.n all a.plane.hold (a.y0 - 200003 - a.plane.upper_rows) (omega (arith, c.requires)) (sub-le _ _) in
    omega (arith, small)

pub overflow_add-result-then-plane-e : goal.overflow_add-result-then-plane-e
overflow_add-result-then-plane-e c =
    let a = c.args in
    let all = inside _ _ _ _ _ _ c.unheld.ensures c.unheld-2.ensures c.if-unheld.true in
    let small = near (seen a.plane) a.b a.y0 a.w a.n all a.plane.hold (a.y0 - 200003 - a.plane.upper_rows) (omega (arith, c.requires)) (sub-le _ _) in
    omega (arith, small, c.requires)

pub returns-then-plane-e-clause-stands : goal.returns-then-plane-e-clause-stands
returns-then-plane-e-clause-stands c =
    let a = c.args in
    in_lower (seen a.plane) a.b a.y0 a.w a.n (inside _ _ _ _ _ _ c.unheld.ensures c.unheld-2.ensures c.if-unheld.true) a.plane.hold c.if-plane-e.true
