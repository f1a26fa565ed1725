-- What is lent, in the terms of the definitions: the previous tables are empty where they are not used. Assumes nothing.
use Rattle.std.specs.Prelude.{Bool, true, false, List, [], Option, Some, None, ℤ}
use Rattle.records.specs.Tables.{Tables, tables}
use Rattle.records.specs.declared.tables.LentTables.{LentTables}
use Rattle.records.specs.declared.tables.Pairs.{Pairs}

abbrev pub frames_of : Option Pairs → List ℤ
frames_of None = []
frames_of (Some p) = p.frames.now

abbrev pub mvs_of : Option Pairs → List ℤ
mvs_of None = []
mvs_of (Some p) = p.mvs.now

abbrev pub is_used : Option Pairs → Bool
is_used None = false
is_used (Some p) = true

abbrev pub seen : LentTables → Tables
seen l = tables l.modes.now l.frames.now l.mvs.now l.subs.now (frames_of l.prev) (mvs_of l.prev)

-- the previous frame is used
abbrev pub has_prev : LentTables → Bool
has_prev l = is_used l.prev
