-- What the code computes on lifted positions is what the definitions say on signed ones. Assumes nothing.
use mathlib.Core.Path.{◌≡◌, sym, ap, ◌∙◌}
use mathlib.Core.List.{List}
use Prim.Native.Nat.{ℕ, ◌+◌, ◌-◌, ◌*◌, ◌^◌}
use lib.IntN.{ℤ}
use Rattle.base.specs.Position.{to_n, mod16, along, place}
use Rattle.base.proofs.Lift.{Diff, Lifted, lifted, diff_along, place-lifted}
use Rattle.taps.specs.Taps.{tap}
use Rattle.taps.specs.Filter.{filtered}
use Rattle.blocks.specs.Sample.{across, sample}
use Rattle.planes.specs.Plane.{Lent, lent, plane, width_of, height_of}
use Rattle.blocks.specs.Block.{ref, from_ref}
use Rattle.taps.specs.Kernel.{seat, level}
use Rattle.passes.specs.Lifted.{block_at}
use Rattle.planes.specs.Plane.{view}
use Rattle.blocks.specs.declared.block.BlockShape.{BlockShape}
use Rattle.base.specs.declared.units.Stepping.{Stepping}
use Rattle.planes.specs.declared.plane.PlaneGeom.{PlaneGeom}
use Rattle.taps.proofs.Filtered.{filtered_same, samples_same}

-- one pass
level_is : (max : ℕ) (taps : ℕ → ℕ → ℤ) (x : ℕ → ℕ) (last : ℕ) (z : ℤ) (q : ℕ) → Lifted z q 200000
    → level max taps x last q ≡ filtered max (taps (mod16 z)) (λ (t : ℕ). x (place last z t))
unfolding level seat
level_is max taps x last z q l =
    filtered_same max _ _ _ _ (λ t t8. (ap (λ (m : ℕ). taps m t) (sym l.phase), ap x (sym (place-lifted last z q 200000 t l))))

-- both passes
block_is : (max : ℕ) (taps : ℕ → ℕ → ℤ) (p : Lent) (sx sy : ℤ) (qx stepx qy stepy r c : ℕ) → Diff sx qx 3200000 → Diff sy qy 3200000
    → block_at max taps p qx stepx qy stepy r c
    ≡ sample max taps (plane p) (width_of p.geom - 1) (height_of p.geom - 1) (along sx stepx c) (along sy stepy r)
unfolding block_at sample across
block_is max taps p sx sy qx stepx qy stepy r c dx dy =
    let lx = lifted (along sx stepx c) (qx + stepx * c) 200000 (diff_along stepx c dx) in
    let ly = lifted (along sy stepy r) (qy + stepy * r) 200000 (diff_along stepy r dy) in
    level_is max taps _ (height_of p.geom - 1) (along sy stepy r) (qy + stepy * r) ly
    ∙ samples_same max _ _ _ (λ t t8. level_is max taps _ (width_of p.geom - 1) (along sx stepx c) (qx + stepx * c) lx)

-- a sample of the block
pub bridge : (b : BlockShape) (g : PlaneGeom) (s : Stepping) (upper lower : List ℕ) (max qx qy r c : ℕ)
    → max ≡ 2 ^ b.depth - 1 → Diff s.start_x.0 qx 3200000 → Diff s.start_y.0 qy 3200000
    → block_at max (tap b.filter) (view (width_of g) (height_of g) g.stride g.upper_rows upper lower)
    qx (to_n s.step_x.0) qy (to_n s.step_y.0) r c
    ≡ from_ref b (ref (lent g upper lower) s) r c
unfolding from_ref plane
bridge b g s upper lower max qx qy r c e dx dy =
    rw e (block_is (2 ^ b.depth - 1) (tap b.filter) (view (width_of g) (height_of g) g.stride g.upper_rows upper lower)
    s.start_x.0 s.start_y.0 qx (to_n s.step_x.0) qy (to_n s.step_y.0) r c dx dy)
