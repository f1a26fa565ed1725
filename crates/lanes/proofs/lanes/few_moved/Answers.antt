-- `lanes::lanes::few_moved` meets its contract: none, one, two or three writes. Assumes nothing.
use mathlib.Core.Path.{◌≡◌, refl}
use mathlib.Core.List.{List}
use Prim.Native.Nat.{ℕ, ◌+◌}
use native.Mathlib.Nat.{add-zero}
use native.Mathlib.Omega.{arith}
use lib.ListN.{set}
use Rattle.base.specs.Paint.{fill}
use Rattle.taps.specs.Kernel.{onward}
use Rattle.lanes.proofs.lanes.few_moved.Goals as goal

none_written : (l : List ℕ) (at : ℕ) (f : ℕ → ℕ) → l ≡ fill l at 0 f
unfolding fill
none_written l at f = refl

one_written : (l : List ℕ) (at : ℕ) (f : ℕ → ℕ) → set l at (f 0) ≡ fill l at 1 f
unfolding fill
one_written l at f = rw add-zero refl

two-written : (l : List ℕ) (at : ℕ) (f : ℕ → ℕ) → set (set l at (f 0)) (at + 1) (f 1) ≡ fill l at 2 f
unfolding fill
two-written l at f = rw add-zero refl

three-written : (l : List ℕ) (at : ℕ) (f : ℕ → ℕ) → set (set (set l at (f 0)) (at + 1) (f 1)) (at + 2) (f 2) ≡ fill l at 3 f
unfolding fill
three-written l at f = rw add-zero refl

pub returns-then-w-eq0 : goal.returns-then-w-eq0
returns-then-w-eq0 c = let a = c.args in let e : a.w ≡ 0 = omega arith in rw e (none_written a.out.now a.at _)

pub returns-then-w-eq1 : goal.returns-then-w-eq1
unfolding onward
returns-then-w-eq1 c =
    let a = c.args in
    let e : a.w ≡ 1 = omega arith in
    rw e (rw add-zero at (one_written a.out.now a.at (onward a.l.now a.s)))

pub returns-then-w-eq2 : goal.returns-then-w-eq2
unfolding onward
returns-then-w-eq2 c =
    let a = c.args in
    let e : a.w ≡ 2 = omega arith in
    rw e (rw add-zero at (two-written a.out.now a.at (onward a.l.now a.s)))

pub returns : goal.returns
unfolding onward
returns c =
    let a = c.args in
    let e : a.w ≡ 3 = omega arith in
    rw e (rw add-zero at (three-written a.out.now a.at (onward a.l.now a.s)))
