pub mod Agreement
pub mod Edges
pub mod Ranges
pub mod Reading
pub mod Source
pub mod Steps
