-- `lanes::lanes::first` meets its contract: four and then the rest are one run. Assumes nothing.
use mathlib.Core.Path.{refl, ap, ◌∙◌}
use Prim.Native.Nat.{◌+◌, ◌-◌}
use native.Mathlib.Omega.{arith}
use lib.ListN.{length}
use Rattle.base.proofs.Painted.{length-fill}
use Rattle.taps.specs.Kernel.{onward}
use Rattle.taps.proofs.Loops.{Filling}
use Rattle.taps.proofs.Runs.{run_turn, onward_on}
use Rattle.lanes.proofs.lanes.first.Goals as goal

pub returns-else-w-lt4 : goal.returns-else-w-lt4
returns-else-w-lt4 c =
    let a = c.args in
    let four = c.four_moved.ensures in
    let so : Filling a.out.now a.at 4 (onward a.l.now a.s) _ = record { is = four; long = ap length four ∙ length-fill _ _ _ _ } in
    (run_turn (a.at + 4) (a.w - 4) a.w (onward a.l.now (a.s + 4)) so refl (omega arith) c.few_moved-else-w-lt4.ensures
    (λ k kn. onward_on a.l.now a.s 4 k)).is
