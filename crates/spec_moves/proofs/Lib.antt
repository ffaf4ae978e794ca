-- The laws, one idea a file, in the order in which they build on each other.
pub mod Ranks
pub mod Bounds
pub mod FirstEntry
pub mod OneOrder
pub mod Fewest
pub mod ReadableNames
pub mod Determined
pub mod Examples
