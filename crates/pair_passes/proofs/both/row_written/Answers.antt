-- `pair_passes::both::row_written` meets its contract: a mean goes by way of a line. Assumes nothing.
use mathlib.Core.Bool.{true, false}
use mathlib.Core.Path.{◌≡◌, ◌∙◌}
use native.Mathlib.Omega.{arith}
use Rattle.base.proofs.Painted.{fill_same}
use Rattle.taps.proofs.Loops.{one-row}
use Rattle.kernels.proofs.Lines.{mean_filled}
use Rattle.pair_passes.proofs.TwoRows.{one_down}
use Rattle.pair_passes.proofs.both.row_written.Goals as goal

pub returns-then-mean : goal.returns-then-mean
returns-then-mean c =
    let a = c.args in
    let m : a.mean ≡ true = c.if-mean.true in
    let line = c.rows_low.ensures ∙ one-row _ _ _ _ _ ∙ fill_same _ _ _ _ _ (λ k kw. one_down a.max a.p.sixteenths a.room.now a.b k) in
    rw m
    (rw line at c.row_averaged.ensures
    ∙ mean_filled a.out.now _ a.at a.w _ a.out.now (omega (arith, c.requires.bounds)))

pub returns : goal.returns
returns c =
    let a = c.args in
    let m : a.mean ≡ false = c.if-mean.false in
    rw m
    (c.rows_low-2.ensures ∙ one-row _ _ _ _ _ ∙ fill_same _ _ _ _ _ (λ k kw. one_down a.max a.p.sixteenths a.room.now a.b k))
