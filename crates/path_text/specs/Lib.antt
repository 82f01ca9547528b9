pub mod Writing
pub mod Lines
pub mod PacketLines
pub mod PathLines
pub mod Near
pub mod PageLines
pub mod Blocks
pub mod EndLines
