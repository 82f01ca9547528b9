pub mod PacketLaws
pub mod PacketList
