pub mod BlockMvs
pub mod Select
