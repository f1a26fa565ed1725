pub mod Answer
pub mod Example
pub mod Number
pub mod Position
pub mod Paint
pub mod Vector
pub mod Refused
