pub mod MissingFrames
pub mod LastOfEach
pub mod Unwrapped
pub mod Oldest
pub mod GivenFrames
pub mod KeptFrames
pub mod FrameExamples
