-- `kernels::rows::gather` meets its contract: three runs, one after the other, each over what the one before left past its end. Assumes nothing.
use Rattle.taps.proofs.Runs.{cut, three-runs}
use Rattle.kernels.proofs.rows.gather.Goals as goal

pub returns : goal.returns
returns c =
    let ends = cut _ _ _ _ _ _ c.left_of-l.ensures c.held-s.ensures c.min-k.ensures in
    three-runs c.args.row.now ends c.run_eights.ensures c.run_moved.ensures c.run_eights-2.ensures
