pub mod Sample
pub mod Block
pub mod Passed
pub mod Referred
