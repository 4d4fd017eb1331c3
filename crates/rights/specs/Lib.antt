pub mod Bounds
pub mod Places
pub mod Rights
pub mod Actions
pub mod Attentions
pub mod Notices
pub mod Told
