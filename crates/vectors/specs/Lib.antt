pub mod BlockMvs
pub mod Select
pub mod Clamp
pub mod Scale
