pub mod Clocks
pub mod Feeding
pub mod Engines
pub mod Serving
