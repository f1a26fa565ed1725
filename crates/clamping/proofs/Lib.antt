pub mod Bounds
pub mod Ends
pub mod Near
pub mod Tested
