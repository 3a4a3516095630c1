pub mod Examples
pub mod Header
