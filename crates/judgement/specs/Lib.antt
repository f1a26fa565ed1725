pub mod Whole
pub mod Seen
pub mod Chain
