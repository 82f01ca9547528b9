pub mod Laid
pub mod Rows
pub mod Sharing
pub mod Steps
pub mod Turns
