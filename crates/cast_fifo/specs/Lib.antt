pub mod HeldBack
pub mod Windows
pub mod Calls
pub mod HoldsBack
