pub mod Group
pub mod Moves
pub mod Code
pub mod Plans
pub mod DueRuns
pub mod Rounds
pub mod Settled
pub mod Offers
