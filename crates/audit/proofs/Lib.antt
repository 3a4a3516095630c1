pub mod Equal
pub mod Fitting
pub mod Lawful
pub mod OneEntry
pub mod Placed
pub mod Places
pub mod OnePlace
