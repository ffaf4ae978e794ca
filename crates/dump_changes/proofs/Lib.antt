-- The laws, one idea a file, in the order in which they build on each other.
pub mod Moved
pub mod Signs
pub mod Rows
