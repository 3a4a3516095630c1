pub mod Agreement
pub mod Band
pub mod Conservation
pub mod Directions
pub mod InRange
pub mod Signed
pub mod Supply
