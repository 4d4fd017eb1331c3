pub mod Contract
pub mod Reply
pub mod Cut
