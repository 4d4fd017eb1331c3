pub mod Line
pub mod Most
