pub mod PacketLists
pub mod PacketRuns
pub mod PacketTexts
