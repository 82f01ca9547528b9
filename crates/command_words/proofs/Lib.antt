mod CommandLines
mod CountExamples
mod FrameExamples
mod LineExamples
mod ListExamples
pub mod ListTables
mod SeenExamples
mod SyncExamples
pub mod WordAgreement
pub mod WordEnds
mod WordExamples
pub mod WordLemmas
pub mod WordLists
pub mod WordMeaning
pub mod WordParses
pub mod WordTurns
pub mod WordWalk
