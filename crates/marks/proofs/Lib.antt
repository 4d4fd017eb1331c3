pub mod Apart
pub mod Walked
