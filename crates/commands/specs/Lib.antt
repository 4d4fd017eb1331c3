pub mod Served
pub mod Room
