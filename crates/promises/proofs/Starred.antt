-- Each starred example of document 01 comes out as it says: one table, one theorem, by computing. Assumes nothing.
use mathlib.Core.Path.{◌≡◌, refl}
use mathlib.Core.Bool.{true}
use mathlib.Core.List.{[], ◌∷◌}
use borrow.Author.Tests.{eq-eqb}
use lib.IntN.{ℤ, pos, negsuc}
use Rattle.base.specs.Answer.{unless}
use Rattle.base.specs.Number.{between, clip3, equal}
use Rattle.base.specs.Position as Position
use Rattle.base.specs.Position.{hold, place}
use Rattle.base.specs.Vector.{same_mv}
use Rattle.base.specs.declared.units.Mv.{Mv}
use Rattle.places.specs.Places.{places, offset, counters, contexts}
use Rattle.records.specs.Tables.{inside, spot_at, spot}
use Rattle.candidates.specs.Offers.{offer, offers}
use Rattle.candidates.specs.Search.{counted, context}
use Rattle.vectors.specs.Select.{halved, quartered}
use Rattle.lists.specs.MvRef.{clamp_part, before, sub_list}
use Rattle.vectors.specs.Scale.{scale_of, luma_of, frac_of, start_of, step_of, sized, allowed, usable, placed, legal16, start_axis, step_axis, scale_mv}
use Rattle.taps.specs.Filter.{filtered}
use Rattle.taps.specs.Taps.{regular, smooth, sharp, bilinear, filters, tap}
use Rattle.blocks.specs.Sample.{across, sample, blend}
use Rattle.planes.specs.Plane.{plane}
use Rattle.samples.specs.Call.{from_ref}
use Rattle.promises.specs.Starred.{halving, quartering, ends_crossed, held_high, modes, sub_three, steps, one_row, every_second, average, above_depth, far}
use Rattle.promises.specs.Starred.{starred_rows, Right}

halving_is : halving.gives ≡ halving.says
unfolding halving halved
halving_is = refl

quartering_is : quartering.gives ≡ quartering.says
unfolding quartering quartered
quartering_is = refl

crossed_is : ends_crossed.gives ≡ ends_crossed.says
unfolding ends_crossed clamp_part clip3
crossed_is = refl

held_is : held_high.gives ≡ held_high.says
unfolding held_high clamp_part clip3
held_is = refl

modes_is : modes.gives ≡ modes.says
unfolding modes context counted spot spot_at inside offset places counters contexts
modes_is = refl

equal_same : (z : ℤ) → equal z z ≡ true
equal_same (pos n) = eq-eqb n n refl
equal_same (negsuc n) = eq-eqb n n refl

-- a vector is equal to itself, so that only the first offer is stored
three_is : (c : Mv) → (sub_three c).gives ≡ (sub_three c).says
unfolding sub_three sub_list before offers offer same_mv
three_is c = simp (equal_same c.row.0, equal_same c.col.0)

steps_is : steps.gives ≡ steps.says
unfolding steps scale_mv scale_of luma_of frac_of start_of step_of sized allowed usable placed legal16 start_axis step_axis between unless
steps_is = refl

row_is : one_row.gives ≡ one_row.says
unfolding one_row from_ref sample across filtered place hold Position.along plane tap filters bilinear
row_is = refl

second_is : every_second.gives ≡ every_second.says
unfolding every_second from_ref sample across filtered place hold Position.along plane tap filters regular smooth sharp bilinear
second_is = refl

average_is : average.gives ≡ average.says
unfolding average blend
average_is = refl

depth_is : above_depth.gives ≡ above_depth.says
unfolding above_depth from_ref sample across filtered place hold Position.along plane tap filters regular smooth sharp bilinear
depth_is = refl

far_is : far.gives ≡ far.says
unfolding far scale_mv scale_of luma_of frac_of start_of step_of sized allowed usable placed legal16 start_axis step_axis between unless
far_is = refl

-- for every vector c of the sixth row
pub starred : (c : Mv) → Right (starred_rows c)
unfolding starred_rows
starred c =
    let samples : Right (one_row ∷ every_second ∷ average ∷ above_depth ∷ far ∷ []) = (row_is, (second_is, (average_is, (depth_is, (far_is, tt))))) in
    (halving_is, (quartering_is, (crossed_is, (held_is, (modes_is, (three_is c, (steps_is, samples)))))))
