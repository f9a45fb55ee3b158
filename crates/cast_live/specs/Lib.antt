pub mod Replayed
pub mod Walk
pub mod Live
pub mod Outputs
