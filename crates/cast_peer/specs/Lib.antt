-- The definitions that a peer's contracts use.
pub mod Peers
pub mod Law
pub mod New
