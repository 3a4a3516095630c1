pub mod Restating
pub mod Steps
