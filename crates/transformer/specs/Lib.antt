pub mod Surd
pub mod Source
pub mod Greatest
pub mod LowSide
pub mod Numbers
pub mod Steps
pub mod Claims
