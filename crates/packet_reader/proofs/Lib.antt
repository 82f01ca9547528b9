pub mod Rows
pub mod Meets
pub mod Bodies
pub mod Heads
pub mod Headed
pub mod Stream
pub mod Steps
pub mod Within
pub mod Hunt
pub mod Adds
pub mod OneAnswer
pub mod Told
pub mod Asked
pub mod Endings
pub mod Fronts
mod NumberEnds
pub mod Skipped
