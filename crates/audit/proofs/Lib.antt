pub mod Turns
pub mod Chains
pub mod Words
