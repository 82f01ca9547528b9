pub mod BenchLine
pub mod Codes
pub mod ElfLine
pub mod ImageLine
pub mod Prints
pub mod SummaryLine
pub mod UsageLine
