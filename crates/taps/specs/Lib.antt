pub mod Taps
pub mod Filter
pub mod Eight
pub mod Kernel
