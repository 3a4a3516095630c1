pub mod Demand2
pub mod Figures
pub mod Worth
