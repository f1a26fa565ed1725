pub mod Accepted
pub mod Joined
pub mod Leading
