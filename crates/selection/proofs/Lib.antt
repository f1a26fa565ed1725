pub mod Means
pub mod Near
pub mod Parts
