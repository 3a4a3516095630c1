pub mod Library
pub mod Steps
