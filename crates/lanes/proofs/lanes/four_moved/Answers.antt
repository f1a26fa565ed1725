-- `lanes::lanes::four_moved` meets its contract: four writes of four samples. Assumes nothing.
use native.Mathlib.Nat.{add-zero}
use Rattle.taps.specs.Kernel.{onward}
use Rattle.taps.proofs.Runs.{four_written}
use Rattle.lanes.proofs.lanes.four_moved.Goals as goal

pub returns : goal.returns
unfolding onward
returns c =
    let a = c.args in
    rw add-zero at (four_written a.out.now a.at (onward a.l.now a.s))
