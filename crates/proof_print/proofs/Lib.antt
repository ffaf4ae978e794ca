-- The laws, one idea a file, in the order in which they build on each other.
pub mod Refusals
pub mod PrintedBack
pub mod HeadLength
pub mod SameSheet
pub mod Examples
