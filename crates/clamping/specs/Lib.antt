pub mod Sizes
pub mod Clamp
pub mod Border
