-- `kernels::rows::row_gathered` meets its contract: the second part goes on where the first ends. Assumes nothing.
use mathlib.Core.Path.{refl, ap, ◌∙◌}
use Prim.Native.Nat.{◌+◌, ◌-◌}
use native.Mathlib.Omega.{arith}
use lib.ListN.{length}
use Rattle.base.proofs.Painted.{length-fill}
use Rattle.taps.specs.Taps.{tap}
use Rattle.taps.specs.Kernel.{levels}
use Rattle.taps.proofs.Loops.{Filling}
use Rattle.taps.proofs.Runs.{run_turn}
use Rattle.kernels.proofs.Lines.{levels_on}
use Rattle.kernels.proofs.rows.row_gathered.Goals as goal

pub returns-else-w-le32 : goal.returns-else-w-le32
returns-else-w-le32 c =
    let a = c.args in
    let one = c.few_gathered-else-w-le32.ensures in
    let so : Filling a.out.now a.at 32 (levels a.max (tap a.p.filter) a.row.now a.last a.start a.step) _ =
    record { is = one; long = ap length one ∙ length-fill _ _ _ _ } in
    let two = rw c.taps_at-q.ensures.0 at c.few_gathered-else-w-le32-2.ensures in
    (run_turn (a.at + 32) (a.w - 32) a.w _ so refl (omega arith) two
    (λ k kn. levels_on a.max (tap a.p.filter) a.row.now a.last a.start a.step 32 k)).is
