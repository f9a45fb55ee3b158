pub mod Entries
pub mod Turns
pub mod Stands
pub mod Law
