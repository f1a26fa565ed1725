pub mod Accepted
pub mod Calls
pub mod Near
