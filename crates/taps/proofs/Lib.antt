pub mod Filtered
pub mod Loops
pub mod Runs
pub mod TapRules
