-- The laws, one idea a file, in the order in which they build on each other.
pub mod Joined
pub mod Singles
pub mod Moves
pub mod Ascent
pub mod Existence
pub mod RunSpans
