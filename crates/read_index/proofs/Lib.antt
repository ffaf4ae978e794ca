-- The laws, one idea a file, in the order in which they build on each other.
pub mod NameTexts
pub mod Slots
pub mod Walking
pub mod Places
pub mod NotNames
pub mod Putting
pub mod Looking
