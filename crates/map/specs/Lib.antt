pub mod Index
pub mod Write
