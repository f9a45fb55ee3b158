pub mod Lists
pub mod Journaling
pub mod Running
pub mod RunLogs
pub mod Arrivals
