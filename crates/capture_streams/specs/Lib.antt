pub mod Demuxed
pub mod Laid
pub mod Laws
pub mod Paths
pub mod Streams
pub mod Texts
