mod WovenExamples
pub mod WovenFrames
pub mod WovenPlaces
pub mod WovenWhole
