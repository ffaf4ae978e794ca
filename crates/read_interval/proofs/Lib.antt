-- The laws, one idea a file.
pub mod Ends
pub mod Intervals
pub mod OffsetsLater
