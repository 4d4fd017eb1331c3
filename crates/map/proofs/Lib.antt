pub mod Turns
pub mod Indexing
pub mod Blocks
pub mod Trying
