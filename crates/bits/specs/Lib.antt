pub mod Fields
pub mod Place
pub mod Examples
