-- The laws, one idea a file, in the order in which they build on each other.
pub mod ComputedClosing
pub mod Computed
pub mod Tested
pub mod Histories
pub mod Cases
