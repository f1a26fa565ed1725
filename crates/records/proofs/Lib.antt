pub mod Fit
pub mod Grid
pub mod Joined
pub mod Rooms
