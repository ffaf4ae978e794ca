-- The laws, one idea a file, in the order in which they build on each other.
pub mod Turning
pub mod Finishing
pub mod MarkTops
pub mod Outcomes
