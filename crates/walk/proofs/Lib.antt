mod Judging
pub mod Noted
mod Passing
mod Summing
