mod Closing
pub mod Deliveries
pub mod Numbers
pub mod Sound
mod TakingBack
