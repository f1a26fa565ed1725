-- `lanes::lanes::top_of_run` meets its contract. The loop keeps up that neither v nor a sample so far is above the top. Assumes nothing.
use mathlib.Core.Path.{◌≡◌}
use Prim.Native.Nat.{◌+◌, min}
use native.Mathlib.Omega.{arith}
use Rattle.lanes.proofs.Tops.{top_turn}
use Rattle.lanes.proofs.lanes.top_of_run.Goals as goal

pub loop-c-preserved : goal.loop-c-preserved
loop-c-preserved g c =
    let l = c.loop-c in (omega arith, top_turn l.c _ c.min.ensures c.requires.1 c.either-top.ensures l.invariant.1 c.top_of.ensures)

pub returns : goal.returns
returns g c =
    let l = c.loop-c in
    let all : min l.c c.args.m ≡ c.args.m = omega arith in
    (l.invariant.0, rw all at l.invariant.1)

pub returns-2 : goal.returns-2
returns-2 g c =
    let l = c.loop-c in
    let all : min (l.c + g.row.N) c.args.m ≡ c.args.m = omega arith in
    (omega arith, rw all at (top_turn l.c _ c.min.ensures c.requires.1 c.either-top.ensures l.invariant.1 c.top_of.ensures))
