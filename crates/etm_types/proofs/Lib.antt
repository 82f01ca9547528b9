pub mod Examples
pub mod SameContexts
pub mod Tables
