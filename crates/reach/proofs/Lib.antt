pub mod Places
pub mod Accepted
pub mod Calls
