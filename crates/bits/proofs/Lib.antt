pub mod Bytes
pub mod Laws
mod Numbers
pub mod Parts
pub mod Sequence
mod Words
