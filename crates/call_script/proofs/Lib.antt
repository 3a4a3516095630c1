pub mod Fitting
pub mod Scripts
