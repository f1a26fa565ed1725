pub mod Scaled
pub mod Tested
