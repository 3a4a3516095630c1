pub mod FileWritten
mod Filled
pub mod PointsWritten
