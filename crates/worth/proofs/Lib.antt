pub mod Columns
pub mod Demand2
pub mod Equality
pub mod Held
mod Roles
