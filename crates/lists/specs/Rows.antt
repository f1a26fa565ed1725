-- Internal: the rows of the search's table, whatever its row 1 asks of the sub-block. Assumes nothing.
use Rattle.std.specs.Prelude.{Bool, List, [], ◌∷◌, ◌++◌, ℤ, pos}
use Rattle.base.specs.Answer.{Row, row, BLOCK, GRID, TARGET, SHORT, RECORD}
use Rattle.base.specs.Number.{between}
use Rattle.records.specs.Tables.{Tables, grid_ok, long_enough}
use Rattle.records.specs.Records.{legal_records}
use Rattle.records.specs.declared.geometry.MvRefGeometry.{MvRefGeometry}

-- rows 1, 2 and 3: what the tables' lengths and records can be asked after
abbrev pub call_rows : Bool → MvRefGeometry → ℤ → List Row
call_rows right g target = row BLOCK right ∷ row GRID (grid_ok g) ∷ row TARGET (between (pos 1) (pos 3) target) ∷ []

-- rows 7 and 8
abbrev pub table_rows : Tables → MvRefGeometry → Bool → List Row
table_rows t g use_prev = row SHORT (long_enough t g use_prev) ∷ row RECORD (legal_records t g use_prev) ∷ []

abbrev pub shared_rows : Tables → MvRefGeometry → ℤ → Bool → Bool → List Row
shared_rows t g target right use_prev = call_rows right g target ++ table_rows t g use_prev
