pub mod Bytes
pub mod Examples
pub mod LowBits
pub mod Rows
pub mod Table
