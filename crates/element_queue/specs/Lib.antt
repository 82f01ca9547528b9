pub mod Counting
pub mod Kept
pub mod Packed
pub mod Pending
pub mod Queued
pub mod Resolved
pub mod Rewriting
pub mod Outlooks
