pub mod Lists
pub mod Carrying
pub mod Copying
pub mod Crashing
pub mod Suffering
pub mod Targets
pub mod Sifting
