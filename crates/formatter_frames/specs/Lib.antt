pub mod Sizes
pub mod Frame
pub mod Framed
pub mod Pieces
pub mod Symbols
pub mod Unframed
pub mod Reader
pub mod Writer
