pub mod Cuts
pub mod Utf8
pub mod Decimals
pub mod Small
pub mod Examples
