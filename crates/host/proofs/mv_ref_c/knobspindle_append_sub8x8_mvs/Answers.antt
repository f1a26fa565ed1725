-- `knobspindle_append_sub8x8_mvs` meets its contract: the previous tables are handed on where they are used, and not read elsewhere. Assumes nothing.
use mathlib.Core.Path.{◌∙◌}
use mir.Facts.{to_z-of_z}
use Rattle.lists.proofs.Unread.{append_unread}
use Rattle.host.proofs.mv_ref_c.knobspindle_append_sub8x8_mvs.Goals as goal

pub returns : goal.returns
returns c =
    let found =
    rw (to_z-of_z c.ranges.target, c.lent-tables.ensures.tables, c.lent-tables.ensures.used) at c.append_sub8x8_mvs-found.ensures in
    c.from.ensures ∙ found ∙ append_unread _ _ _ _ _ _ _ _ _ _ _ _
