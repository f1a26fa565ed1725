-- Positions in sixteenths of a sample, on whole numbers of either sign: document 01, 'Samples'. Assumes nothing.
use Rattle.std.specs.Prelude.{ℕ, ◌-◌, ◌*◌, ◌/◌, ◌%◌, min, ℤ, pos, negsuc, ◌+ℤ◌, ◌-ℤ◌}

-- z, or 0 where z is below 0
abbrev pub to_n : ℤ → ℕ
to_n (pos n) = n
to_n (negsuc n) = 0

-- z / k, rounded down
abbrev pub floor_by : ℕ → ℤ → ℤ
floor_by k (pos n) = pos (n / k)
floor_by k (negsuc n) = negsuc (n / k)

abbrev pub floor16 : ℤ → ℤ
floor16 z = floor_by 16 z

-- z mod 16, always 0..15
abbrev pub mod16 : ℤ → ℕ
mod16 (pos n) = n % 16
mod16 (negsuc n) = 15 - n % 16

-- z held into 0..last
unfoldable pub hold : ℕ → ℤ → ℕ
hold last z = min (to_n z) last

-- the position of column, or row, i: start + step x i
unfoldable pub along : ℤ → ℕ → ℕ → ℤ
along start step i = start +ℤ pos (step * i)

-- the column, or row, that tap t reads at position z: floor(z/16) + t - 3, held
unfoldable pub place : ℕ → ℤ → ℕ → ℕ
place last z t = hold last (floor16 z +ℤ pos t -ℤ pos 3)
