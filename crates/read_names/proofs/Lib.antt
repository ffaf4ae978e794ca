-- The laws, one idea a file, in the order in which they build on each other.
pub mod Digits
pub mod EndNumbers
pub mod Spelling
pub mod EndPlaces
pub mod Names
pub mod NamesLater
