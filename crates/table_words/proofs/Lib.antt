-- The laws, in the order in which they build on each other.
pub mod OneWord
pub mod Telling
pub mod Gaining
