pub mod Dues
pub mod Hopes
pub mod Keeps
