-- What a journal keeps, and what a run of its calls is.
pub mod Lists
pub mod Runs
pub mod Journals
