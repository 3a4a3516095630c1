mod Delivering
pub mod InFull
pub mod Numbers
pub mod Results
