pub mod State
pub mod Causes
pub mod Bytes
pub mod Calls
pub mod Memory
pub mod OverStd
