pub mod InterReach
pub mod Chain
