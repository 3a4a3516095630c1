pub mod Answers
pub mod OneBit
pub mod Overwriting
pub mod Readable
pub mod RoundTrips
mod Turns
