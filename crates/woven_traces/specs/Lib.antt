pub mod Weaving
pub mod Woven
