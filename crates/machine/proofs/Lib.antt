pub mod Frames
pub mod Order
pub mod Standing
pub mod Sums
pub mod Totals
