pub mod Marks
pub mod Rows
pub mod Walked
pub mod Part
pub mod LastBytes
