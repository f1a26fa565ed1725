pub mod MvRef
pub mod Rows
