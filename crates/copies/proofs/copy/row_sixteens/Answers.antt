-- `copies::copy::row_sixteens` meets its contract. The loop keeps up that the first i sixteens are written. Assumes nothing.
use mathlib.Core.Path.{◌≡◌, refl}
use Prim.Native.Nat.{◌+◌, ◌*◌}
use native.Mathlib.Omega.{arith}
use Rattle.taps.proofs.Loops.{fill_none}
use Rattle.taps.proofs.Runs.{run_turn}
use Rattle.copies.proofs.Copies.{clipped_on}
use Rattle.copies.proofs.copy.row_sixteens.Goals as goal

pub loop-i-init : goal.loop-i-init
loop-i-init c = fill_none _ _ _

pub loop-i-preserved : goal.loop-i-preserved
loop-i-preserved c =
    let a = c.args in
    let n = c.loop-i.i * 16 in
    run_turn (a.at + n) 16 _ _ c.loop-i.invariant refl (omega arith) c.copied.ensures (λ k h. clipped_on a.max a.l.now a.b n k)

pub returns : goal.returns
returns c = let e : c.loop-i.i * 16 ≡ c.args.w = omega arith in rw e at c.loop-i.invariant.is
