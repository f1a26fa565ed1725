-- `reach::reaching::first_read` meets its contract: an accepted start is far from the ends of its width. Assumes nothing.
use mir.Syntax.{w32}
use lib.IntN.{pos}
use Rattle.base.proofs.Bd.{bd, lit, shr, ◌⊖◌, fits, rd}
use Rattle.reach.specs.Rectangle.{first_read}
use Rattle.reach.proofs.Places.{shr-floor}
use Rattle.reach.proofs.reaching.first_read.Goals as goal

pub overflow_sub-start : goal.overflow_sub-start
overflow_sub-start c =
    let z = bd c.args.start.0 c.requires in
    rw (rd w32 z tt, rd w32 (shr 16 z) tt) (fits (shr 16 z ⊖ lit (pos 3)) tt)

pub returns : goal.returns
unfolding first_read
returns c =
    let z = bd c.args.start.0 c.requires in
    rw (rd w32 z tt, rd w32 (shr 16 z) tt, rd w32 (shr 16 z ⊖ lit (pos 3)) tt, shr-floor c.args.start.0) at c.hold.ensures
