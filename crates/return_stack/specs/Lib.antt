pub mod Saved
pub mod Stack
