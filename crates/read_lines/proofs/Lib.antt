-- The laws, one idea a file, in the order in which they build on each other.
pub mod KeyedLines
pub mod ValueFirst
pub mod Loops
pub mod LinesLater
pub mod Prefix
pub mod Stays
