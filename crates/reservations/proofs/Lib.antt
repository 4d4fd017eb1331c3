pub mod SearchLaws
pub mod ChangeLaws
