-- The definitions that the contracts of the exports use.
pub mod Exploring
pub mod Freeing
pub mod JudgeOwning
pub mod Numbers
pub mod PeerOwning
pub mod Peers
pub mod Pieces
pub mod Steps
pub mod Streams
pub mod Texts
pub mod WorldOwning
