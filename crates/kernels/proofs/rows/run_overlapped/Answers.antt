-- `kernels::rows::run_overlapped` meets its contract. The loop keeps up that the first i eights are written, or all samples. Assumes nothing.
use Prim.Native.Nat.{◌+◌, ◌*◌, min}
use mathlib.Core.Path.{◌≡◌, refl}
use native.Mathlib.Omega.{arith}
use Rattle.taps.proofs.Runs.{gathered_none, gathered_fill, gathered_join, overlap, onward_on}
use Rattle.kernels.proofs.rows.run_overlapped.Goals as goal

pub loop-i-init : goal.loop-i-init
loop-i-init c = let e : min 0 c.args.n ≡ 0 = omega arith in rw e (gathered_none _ _ _)

pub loop-i-preserved : goal.loop-i-preserved
loop-i-preserved c =
    let a = c.args in
    let o = c.min-o.result in
    let over = overlap (c.loop-i.i * 8) a.n o c.requires.0 c.min-o.ensures in
    let eight = gathered_fill _ 8 _ (omega (arith, c.loop-i.invariant.len, c.min-o.ensures)) c.moved.ensures in
    let end : min ((c.loop-i.i + 1) * 8) a.n ≡ o + 8 = omega (arith, over.1) in
    gathered_join o _ c.loop-i.invariant eight refl over.0 end (λ k h. onward_on a.row.now a.s o k)

pub returns : goal.returns
returns c = let e : min (c.loop-i.i * 8) c.args.n ≡ c.args.n = omega arith in rw e at c.loop-i.invariant
