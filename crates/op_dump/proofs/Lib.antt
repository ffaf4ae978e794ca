-- The laws, one idea a file, in the order in which they build on each other.
pub mod Measured
pub mod Taken
pub mod RowAnswers
pub mod Outcomes
