pub mod Kept
pub mod Same
pub mod SearchCalls
pub mod Table
pub mod Unread
