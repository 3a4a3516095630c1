pub mod Bands
pub mod Laws
pub mod Points
