pub mod Calls
pub mod Printed
pub mod Leaves
