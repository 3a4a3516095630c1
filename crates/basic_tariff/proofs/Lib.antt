pub mod Cases
pub mod Table
pub mod Factors
pub mod Accepted
pub mod Sums
pub mod Rows
pub mod Source
pub mod Refusing
