-- `pairs::pairs::row_sixteens` meets its contract. The loop keeps up that the results so far are written, or all of them. Assumes nothing.
use mathlib.Core.Path.{◌≡◌}
use Prim.Native.Nat.{◌+◌, min}
use native.Mathlib.Nat.{add_assoc}
use native.Mathlib.Omega.{arith}
use Rattle.taps.proofs.Loops.{fill_none}
use Rattle.pairs.specs.Pair.{low_pairs}
use Rattle.pairs.proofs.Two.{again_turn}
use Rattle.pairs.proofs.pairs.row_sixteens.Goals as goal

pub loop-c-init : goal.loop-c-init
loop-c-init c = let none : min 0 c.args.w ≡ 0 = omega arith in rw none (fill_none _ _ _)

pub loop-c-preserved : goal.loop-c-preserved
unfolding low_pairs
loop-c-preserved c =
    let l = c.loop-c in again_turn l.c 16 _ _ l.invariant c.requires.0 c.requires.2 c.min-o.ensures c.pairs.ensures (λ k h. rw add_assoc)

pub returns : goal.returns
returns c =
    let l = c.loop-c in let all : min l.c c.args.w ≡ c.args.w = omega arith in rw all at l.invariant.is

pub returns-2 : goal.returns-2
unfolding low_pairs
returns-2 c =
    let l = c.loop-c in
    let all : min (l.c + 16) c.args.w ≡ c.args.w = omega arith in
    rw all at (again_turn l.c 16 _ _ l.invariant c.requires.0 c.requires.2 c.min-o.ensures c.pairs.ensures (λ k h. rw add_assoc)).is
