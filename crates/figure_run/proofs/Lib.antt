-- The laws, one idea a file, in the order in which they build on each other.
pub mod Storing
pub mod Earliest
pub mod RowWords
pub mod Counting
pub mod Runs
pub mod Told
