-- The numbers of a stored case, in the format of oracle/README.md: "little-endian, signed ones in two's complement". Assumes nothing.
use Rattle.std.specs.Prelude.{ℕ, zero, suc, ◌+◌, ◌*◌, Bool, not, cond, List, Option, Some, None, eqb, ℤ, get_or}
use Rattle.std.specs.Int.{w32}
use Rattle.std.proofs.Common.{to_z}

-- n bytes from place at on, the lowest first; past the record's end every byte is 0
abbrev pub little : ℕ → List ℕ → ℕ → ℕ
little zero l at = 0
little (suc n) l at = get_or l at 0 + 256 * little n l (at + 1)

abbrev pub flag : List ℕ → ℕ → Bool
flag l at = not (eqb (get_or l at 0) 0)

-- the 32 bits of x in two's complement
abbrev pub signed : ℕ → ℤ
signed x = to_z w32 x

-- a file of cases begins with KNOB and the number of its call; any other has no call
unfoldable pub call_in : List ℕ → Option ℕ
call_in header = cond (eqb (little 4 header 0) 1112493643) (Some (little 4 header 4)) None
