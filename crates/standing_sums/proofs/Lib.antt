pub mod Adding
mod Chosen
mod Lawful
pub mod Named
