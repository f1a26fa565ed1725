-- `records::legal_frame` meets its contract, which is `between`'s of the frame. Assumes nothing.
use Rattle.records.specs.Records.{legal_frame}
use Rattle.records.proofs.Fit.{back}
use Rattle.records.proofs.records.legal_frame.Goals as goal

pub returns : goal.returns
unfolding legal_frame
returns c =
    rw (← c.frame_at.ensures) (rw (back (record { sfits = c.frame_at.type_inv })) at c.between.ensures)
