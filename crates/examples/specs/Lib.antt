pub mod Sheets
pub mod Law
