pub mod ConflictLaws
pub mod Parts
pub mod StoreLaws
pub mod MoveLaws
pub mod Returned
pub mod SameLaws
pub mod VitalLaws
pub mod Rows
