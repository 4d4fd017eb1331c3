pub mod RunLaws
pub mod PageLaws
pub mod Truth
pub mod Only
