-- Numbers as the standard writes them. Assumes nothing.
use Rattle.std.specs.Prelude.{ℕ, Bool, false, ◌&&◌, cond, leb, eqb, ℤ, pos, negsuc}
use Rattle.std.specs.Int.Signed.{lt_z, le_z}

-- low <= x <= high
unfoldable pub between : ℤ → ℤ → ℤ → Bool
between low high x = le_z low x && le_z x high

-- the same of unsigned numbers
unfoldable pub within : ℕ → ℕ → ℕ → Bool
within low high x = leb low x && leb x high

-- Clip3( low, high, x ) of the standard's 4.6; document 01: "Test below low first, then above high", which decides where the ends cross
unfoldable pub clip3 : ℤ → ℤ → ℤ → ℤ
clip3 low high x = cond (lt_z x low) low (cond (lt_z high x) high x)

-- two signed numbers are the same
abbrev pub equal : ℤ → ℤ → Bool
equal (pos a) (pos b) = eqb a b
equal (pos a) (negsuc b) = false
equal (negsuc a) (pos b) = false
equal (negsuc a) (negsuc b) = eqb a b
