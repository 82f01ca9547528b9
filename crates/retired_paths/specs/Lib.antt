pub mod Retired
pub mod Retiring
