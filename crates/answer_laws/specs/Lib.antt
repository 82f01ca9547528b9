pub mod Complete
pub mod TracedCalls
pub mod ReadBack
