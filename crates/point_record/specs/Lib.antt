pub mod Examples
pub mod Point
