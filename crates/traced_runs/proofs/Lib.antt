pub mod LastFrames
mod RunFileExamples
mod SelftestExamples
pub mod SelftestLines
pub mod SelftestTexts
mod ShownExamples
pub mod SyncedFrames
mod TracedExamples
pub mod TracedPaths
pub mod TracedStreams
pub mod TracedTables
pub mod Tracing
