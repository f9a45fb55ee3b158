pub mod Lists
pub mod Plans
pub mod Fates
pub mod Copies
pub mod Carriers
