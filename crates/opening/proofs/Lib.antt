pub mod Accepted
mod InOrder
pub mod Reading
