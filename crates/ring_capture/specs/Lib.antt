pub mod Ends
pub mod Rotated
pub mod Unwrapping
pub mod Laid
pub mod Wrapped
