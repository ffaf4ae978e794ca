-- The theorems, one idea a file, in the order in which they build on each other.
pub mod Columns
pub mod AddUp
pub mod Clashing
pub mod EachLaws
pub mod SameFigures
pub mod Determined
