pub mod LowBits
pub mod Examples
