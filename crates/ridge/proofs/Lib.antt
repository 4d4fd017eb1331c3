pub mod InterfaceLaws
pub mod Only
