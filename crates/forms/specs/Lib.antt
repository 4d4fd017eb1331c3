pub mod Forms
pub mod Tests
