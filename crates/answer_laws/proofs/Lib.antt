pub mod Back
pub mod Complete
mod CompleteExamples
pub mod TracedCalls
pub mod TracedCounts
pub mod WordTables
