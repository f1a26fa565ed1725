-- `lanes::lanes::row_wide` meets its contract. The loop keeps up that the first c results are written. Assumes nothing.
use Rattle.taps.specs.Taps.{tap}
use Rattle.taps.specs.Kernel.{ran}
use Rattle.taps.proofs.Loops.{Filling}
use Rattle.lanes.proofs.lanes.row_wide.Given as goal

abbrev pub invariant-loop-c : goal.invariant-loop-c
invariant-loop-c g l = Filling l.initial.out l.at l.c (ran l.max (tap l.p.filter l.p.phase) l.l g.row.APART l.b) l.out
