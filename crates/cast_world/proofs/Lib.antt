pub mod Stepping
pub mod Sounding
pub mod Showing
pub mod Running
pub mod Beginning
pub mod Owing
pub mod Planning
pub mod Rounding
pub mod Resting
mod FirstDue
mod DueRuns
pub mod Numbering
mod Marks
pub mod Steps
mod Faults
pub mod Settled
mod Offering
