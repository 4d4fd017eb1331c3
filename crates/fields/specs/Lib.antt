pub mod Bytes
pub mod Field
pub mod Bits
pub mod Page
