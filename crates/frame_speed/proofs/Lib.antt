pub mod Examples
pub mod Pairs
