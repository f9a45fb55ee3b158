-- A packet as bytes.
pub mod Law
pub mod Wire
