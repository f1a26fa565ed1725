pub mod Blocks
pub mod Copied
pub mod Edges
