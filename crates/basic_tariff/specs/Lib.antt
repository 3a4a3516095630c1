pub mod Source
pub mod BasicTariff
pub mod Numbers
pub mod Claims
