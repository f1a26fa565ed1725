pub mod HighLow
pub mod Low
pub mod Made
pub mod Tops
mod Eight
