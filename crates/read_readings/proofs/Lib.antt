-- The laws, one idea a file, in the order in which they build on each other.
pub mod Turns
pub mod Numbers
pub mod Outcomes
pub mod Bounds
pub mod Stays
pub mod Entries
pub mod Cuts
