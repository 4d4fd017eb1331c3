pub mod OrderLaws
pub mod SenseLaws
pub mod Refusals
