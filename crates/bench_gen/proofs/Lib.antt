pub mod Added
pub mod Examples
