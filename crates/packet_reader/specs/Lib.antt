pub mod Trees
pub mod States
pub mod Fronts
pub mod Packets
pub mod Stands
pub mod Answered
pub mod Told
