pub mod QuarterHour
pub mod LowSide
pub mod BasicCharge
pub mod Measured
