-- What a passed test says of the numbers it was asked of: of an axis, and of a table of sizes. Assumes nothing.
use mathlib.Core.Path.{◌≡◌, ap}
use mathlib.Core.Bool.{true}
use mathlib.Core.List.{List}
use Prim.Native.Nat.{ℕ, ◌≤◌}
use native.Mathlib.Omega.{arith}
use lib.IntN.{ℤ, pos, nat_abs}
use lib.ListN.{get_or}
use lib.Signed.{le_z, lt_z}
use Rattle.base.specs.Number.{between}
use Rattle.base.specs.Position.{to_n}
use Rattle.base.proofs.Anywhere.{all, anywhere}
use Rattle.base.proofs.Tests.{and_three, between_pos, le_z-up, lt_z-up, pos-to_n}
use Rattle.clamping.specs.Clamp.{on_axis}

-- a cell of an axis, and the axis, are at most 8192 long
pub axis_small : (total first : ℤ) → on_axis total first ≡ true → (nat_abs total ≤ 8192) × (nat_abs first ≤ 8192)
unfolding on_axis
axis_small total first e =
    let p = and_three (between (pos 1) (pos 8192) total) (le_z (pos 0) first) (lt_z first total) e in
    let t = between_pos 1 8192 total p.0 in
    let f = le_z-up (pos 0) first tt p.1.0 in
    (t.1, omega (arith, t.1, (lt_z-up first total f.0 p.1.1).1))

-- a block size is no negative number, and at most 8
pub size_kept : (sizes : List ℤ) → all (between (pos 0) (pos 8)) (pos 0) sizes ≡ true → (size : ℕ)
    → (pos (to_n (get_or sizes size (pos 0))) ≡ get_or sizes size (pos 0)) × (to_n (get_or sizes size (pos 0)) ≤ 8)
size_kept sizes test size =
    let z = get_or sizes size (pos 0) in
    let b = between_pos 0 8 z (anywhere (between (pos 0) (pos 8)) (pos 0) sizes test size) in
    let e = pos-to_n z b.0 in
    (e, omega (arith, b.1, ap nat_abs e))
