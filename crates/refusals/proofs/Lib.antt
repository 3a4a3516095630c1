pub mod First
pub mod Tests
