-- The laws, one idea a file, in the order in which they build on each other.
pub mod ByKind
pub mod Queueing
pub mod Workable
pub mod Starting
