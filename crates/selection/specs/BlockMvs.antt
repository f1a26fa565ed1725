-- A block's vectors as one value: document 01, 'From eighths to sixteenths'. Assumes nothing.
use Rattle.std.specs.Prelude.{ℕ, Bool, ◌&&◌, List, [], get_or}
use Rattle.base.specs.Vector.{zero_mv, legal_mv}
use Rattle.base.specs.declared.units.Mv.{Mv}

-- list, then sub-block
abbrev pub BlockMvs : Type 0
BlockMvs = List (List Mv)

-- the vector of sub-block b in a list
abbrev pub mv_at : BlockMvs → ℕ → ℕ → Mv
mv_at m list b = get_or (get_or m list []) b zero_mv

unfoldable pub legal_list : BlockMvs → ℕ → Bool
legal_list m list =
    legal_mv (mv_at m list 0) && legal_mv (mv_at m list 1) && legal_mv (mv_at m list 2) && legal_mv (mv_at m list 3)

-- row 9: "a vector handed in by value has a component outside -32767..32767", and all sixteen components are handed in
unfoldable pub legal_block : BlockMvs → Bool
legal_block m = legal_list m 0 && legal_list m 1
