pub mod Classes
pub mod Offsets
