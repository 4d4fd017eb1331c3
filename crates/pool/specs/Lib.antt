pub mod Bounds
pub mod Marks
pub mod Pool
pub mod Valid
pub mod Faults
pub mod Alike
