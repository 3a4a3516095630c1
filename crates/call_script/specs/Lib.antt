pub mod Kinds
pub mod Script
pub mod Room
