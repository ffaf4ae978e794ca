-- The laws, one idea a file, in the order in which they build on each other.
pub mod Tests
pub mod Places
pub mod Fours
pub mod Runs
pub mod Classes
pub mod Values
pub mod Answers
pub mod Later
