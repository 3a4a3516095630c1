pub mod Entry
pub mod Examples
