pub mod Alike
pub mod Deliveries
pub mod Outcomes
