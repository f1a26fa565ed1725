-- Planes that agree on what a block can read give the same samples; so do two partings of one plane into bands, and a rectangle of a block
-- has the block's samples. Assumes nothing.
use mathlib.Core.Path.{◌≡◌, refl, sym, ap, ◌∙◌}
use mathlib.Core.Bool.{Bool, true, false}
use Prim.Native.Nat.{ℕ, ◌+◌, ◌-◌, ◌^◌, ◌<◌, ◌≤◌}
use native.Mathlib.Nat.{min-le_right}
use native.Mathlib.Omega.{arith}
use lib.IntN.{ℤ}
use Rattle.base.specs.Position.{to_n, mod16, hold, along, place}
use Rattle.base.proofs.Lift.{along_along}
use Rattle.taps.specs.Taps.{tap}
use Rattle.blocks.specs.Sample.{across, sample, blend}
use Rattle.planes.specs.Plane.{Lent, plane, width_of, height_of}
use Rattle.samples.specs.Call.{Ref, ref, Call, from_ref, value}
use Rattle.reach.proofs.Places.{reads_in, in_plane}
use Rattle.samples.specs.Reach.{Agree, SamePlane, Piece, Rectangle}
use Rattle.blocks.specs.declared.block.BlockShape.{BlockShape}
use Rattle.base.specs.declared.units.Stepping.{Stepping}
use Rattle.taps.proofs.Filtered.{samples_same}

-- ---- samples

place-le : (last : ℕ) (z : ℤ) (t : ℕ) → place last z t ≤ last
unfolding place hold
place-le last z t = min-le_right _ _

-- a sample reads a plane at eight by eight places
pub sample_same : (max : ℕ) (taps : ℕ → ℕ → ℤ) (p q : ℕ → ℕ → ℕ) (X Y : ℕ) (P Q : ℤ)
    → ((t u : ℕ) → t < 8 → u < 8 → p (place Y Q t) (place X P u) ≡ q (place Y Q t) (place X P u))
    → sample max taps p X Y P Q ≡ sample max taps q X Y P Q
unfolding sample across
sample_same max taps p q X Y P Q e = samples_same max (taps (mod16 Q)) _ _ (λ t t8. samples_same max (taps (mod16 P)) _ _ (λ u u8. e t u t8 u8))

-- REACH: planes that agree on the rectangle that a block can read give the same samples
pub reach : (b : BlockShape) (s : Stepping) (one two : Lent) → Agree s b.w b.h one two
    → (r c : ℕ) → r < b.h → c < b.w → from_ref b (ref one s) r c ≡ from_ref b (ref two s) r c
unfolding from_ref
reach b s one two a r c rh cw =
    let W = width_of one.geom in
    let H = height_of one.geom in
    rw (sym a.width, sym a.height)
    (sample_same (2 ^ b.depth - 1) (tap b.filter) (plane one) (plane two) (W - 1) (H - 1) _ _
    (λ t u t8 u8. a.samples _ _ (reads_in W H s b.w b.h r c t u rh cw t8 u8)))

-- two lendings of one plane agree on all of it, so that the parting into bands does not matter
pub parting : (b : BlockShape) (s : Stepping) (one two : Lent) → SamePlane one two → 0 < width_of one.geom → 0 < height_of one.geom
    → (r c : ℕ) → r < b.h → c < b.w → from_ref b (ref one s) r c ≡ from_ref b (ref two s) r c
parting b s one two same wide tall =
    reach b s one two
    (record {
      width = same.width;
      height = same.height;
      samples = λ v u i.
          let p = in_plane (width_of one.geom) (height_of one.geom) s b.w b.h v u wide tall i in
          same.samples v u p.0 p.1;
    })

-- ---- rectangles

from-piece : (b d : BlockShape) (a p : Ref) (r0 c0 r c : ℕ) → d.filter ≡ b.filter → d.depth ≡ b.depth → Piece a p r0 c0
    → from_ref d p r c ≡ from_ref b a (r0 + r) (c0 + c)
unfolding from_ref
from-piece b d a p r0 c0 r c f e m =
    let X = width_of p.lent.geom - 1 in
    let Y = height_of p.lent.geom - 1 in
    let P = along p.from.start_x.0 (to_n p.from.step_x.0) c in
    let Q = along p.from.start_y.0 (to_n p.from.step_y.0) r in
    let x : P ≡ along a.from.start_x.0 (to_n a.from.step_x.0) (c0 + c)
    = rw (m.from.x, m.from.across) (along_along a.from.start_x.0 (to_n a.from.step_x.0) c0 c) in
    let y : Q ≡ along a.from.start_y.0 (to_n a.from.step_y.0) (r0 + r)
    = rw (m.from.y, m.from.down) (along_along a.from.start_y.0 (to_n a.from.step_y.0) r0 r) in
    sample_same (2 ^ d.depth - 1) (tap d.filter) (plane p.lent) (plane a.lent) X Y P Q
    (λ t u t8 u8. m.plane.samples _ _ (omega (arith, m.high, place-le Y Q t)) (omega (arith, m.wide, place-le X P u)))
    ∙ rw (x, y, f, e, m.plane.width, m.plane.height)

pub blend_same : (t : Bool) (x y v w : ℕ) → x ≡ v → (t ≡ true → y ≡ w) → blend t x y ≡ blend t v w
unfolding blend
blend_same true x y v w e f = rw (e, f refl)
blend_same false x y v w e f = e

-- CUTTING, a sample at a time: a rectangle's sample is the block's, averaged or not, in whatever bands
pub rectangle : (a p : Call) (r0 c0 r c : ℕ) → Rectangle a p r0 c0 → value p r c ≡ value a (r0 + r) (c0 + c)
unfolding value
rectangle a p r0 c0 r c q =
    ap (λ (t : Bool). blend t (from_ref p.shape p.one r c) (from_ref p.shape p.two r c)) q.average
    ∙ blend_same a.shape.average _ _ _ _
    (from-piece a.shape p.shape a.one p.one r0 c0 r c q.filter q.depth q.one)
    (λ t. from-piece a.shape p.shape a.two p.two r0 c0 r c q.filter q.depth (q.two t))
