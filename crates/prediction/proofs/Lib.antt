pub mod Outcomes
pub mod Ready
