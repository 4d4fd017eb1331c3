pub mod CallLaws
pub mod Only
