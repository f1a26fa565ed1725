pub mod Predict
pub mod Chain
