pub mod Block
pub mod Cells
pub mod Lends
pub mod Memory
pub mod Ring
pub mod RingLends
