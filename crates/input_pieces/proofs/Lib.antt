pub mod Interrupts
mod ListedExamples
pub mod Pieces
