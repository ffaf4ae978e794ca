-- The laws, one idea a file, in the order in which they build on each other.
pub mod Opened
pub mod Determined
pub mod TextAnswers
