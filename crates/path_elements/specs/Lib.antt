pub mod Elements
pub mod Held
pub mod Laws
pub mod Path
pub mod Running
pub mod Standing
pub mod PathLaws
