mod Adding
pub mod NumbersSeen
mod Reporting
mod Statements
pub mod TotalIsSum
