mod AnswerExamples
mod Layouts
pub mod StatusExamples
pub mod AnswerLemmas
pub mod Meaningless
pub mod Programs
pub mod ReadFirst
pub mod WordKinds
