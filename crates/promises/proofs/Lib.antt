pub mod Cutting
pub mod Instance
pub mod Starred
pub mod Unread
pub mod UnreadInstance
pub mod UnreadWhole
