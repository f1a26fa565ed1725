pub mod Cut
pub mod Starred
pub mod Unread
