pub mod Fraction
pub mod Quantity
