pub mod BlockLaws
pub mod SameLaws
pub mod StatusLaws
