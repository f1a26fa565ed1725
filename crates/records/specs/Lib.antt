pub mod Tables
pub mod Records
pub mod Seen
pub mod Lent
