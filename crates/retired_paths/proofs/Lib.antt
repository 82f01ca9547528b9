pub mod Refused
pub mod RetiredEvents
pub mod RetiredMany
pub mod RetiredSteps
pub mod RetiredStreams
pub mod RetiredExamples
