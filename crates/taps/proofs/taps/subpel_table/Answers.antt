-- `taps::taps::subpel_table` meets its contract: the code's table is the definition's. Assumes nothing.
use mathlib.Core.Path.{refl}
use Rattle.taps.specs.Taps.{regular, smooth, sharp, bilinear, filters}
use Rattle.taps.proofs.taps.subpel_table.Goals as goal

pub returns : goal.returns
unfolding filters regular smooth sharp bilinear
returns c = refl
