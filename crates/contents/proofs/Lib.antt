pub mod Turns
pub mod Bodies
