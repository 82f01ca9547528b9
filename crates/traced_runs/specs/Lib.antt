pub mod Selftest
pub mod Traced
pub mod Tracing
