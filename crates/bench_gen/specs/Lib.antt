pub mod Texts
pub mod Round
pub mod Bench
