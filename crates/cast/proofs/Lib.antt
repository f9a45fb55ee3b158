pub mod WholeFeeds
pub mod Hearing
pub mod Following
pub mod Sums
pub mod Walks
pub mod Tries
pub mod EachOnce
