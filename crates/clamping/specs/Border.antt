-- One axis of the search's clamp, over any border: document 01, 'Vectors' (the standard's 6.5.3 to 6.5.5). Assumes nothing.
use Rattle.std.specs.Prelude.{ℤ, pos, ◌+ℤ◌, ◌-ℤ◌, ◌*ℤ◌}
use Rattle.base.specs.Number.{clip3}

-- "low = -64 x mi_row - border; high = 64 x (mi_rows - height - mi_row) + border, columns alike. Test below low first, then above high"
unfoldable pub clamp_part : ℤ → ℤ → ℤ → ℤ → ℤ → ℤ
clamp_part border total n first v =
    clip3 (pos 0 -ℤ pos 64 *ℤ first -ℤ border) (pos 64 *ℤ (total -ℤ n -ℤ first) +ℤ border) v
