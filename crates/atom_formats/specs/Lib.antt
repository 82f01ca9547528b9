pub mod Formats
pub mod Bytes
pub mod Laws
