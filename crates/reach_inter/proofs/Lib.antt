pub mod Joined
pub mod Accepted
pub mod Calls
