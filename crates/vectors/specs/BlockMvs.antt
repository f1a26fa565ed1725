-- A block's vectors as one value, as the calls of this crate take them. Assumes nothing.
pub use Rattle.selection.specs.BlockMvs.{BlockMvs, mv_at}
unfoldable pub use Rattle.selection.specs.BlockMvs.{legal_list, legal_block}
