pub mod CountLaws
pub mod Counted
pub mod Pairs
pub mod Taking
