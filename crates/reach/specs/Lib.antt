pub mod Rectangle
