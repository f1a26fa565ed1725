pub mod Facts
pub mod Bridge
pub mod Depths
