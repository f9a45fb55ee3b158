pub mod Cutting
mod Fitting
