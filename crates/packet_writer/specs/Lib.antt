pub mod Numbers
pub mod Contexts
pub mod Atoms
pub mod Front
pub mod Spelling
pub mod Fitting
pub mod Laws
