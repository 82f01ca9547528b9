pub mod Levels
pub mod Counts
pub mod Targets
pub mod CountLines
