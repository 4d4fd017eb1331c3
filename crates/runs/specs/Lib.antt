pub mod Runs
pub mod Page
pub mod TellsMap
