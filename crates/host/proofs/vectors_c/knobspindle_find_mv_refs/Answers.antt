-- `knobspindle_find_mv_refs` meets its contract: the previous tables are handed on where they are used, and not read elsewhere. Assumes nothing.
use mathlib.Core.Path.{◌∙◌}
use mir.Facts.{to_z-of_z}
use Rattle.lists.proofs.Unread.{find_unread}
use Rattle.host.proofs.vectors_c.knobspindle_find_mv_refs.Goals as goal

pub returns : goal.returns
returns c =
    let found =
    rw (to_z-of_z c.ranges.target, to_z-of_z c.ranges.block, c.lent-tables.ensures.tables, c.lent-tables.ensures.used) at c.find_mv_refs.ensures in
    c.from.ensures ∙ found ∙ find_unread _ _ _ _ _ _ _ _ _ _ _
