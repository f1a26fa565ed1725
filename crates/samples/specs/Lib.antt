pub mod Call
pub mod Reach
