pub mod Answering
pub mod Marked
pub mod Only
