-- The laws, one idea a file, in the order in which they build on each other.
pub mod Vars
pub mod Events
pub mod Stretches
pub mod WordsLeft
pub mod Dumpable
pub mod Lengths
pub mod Wholes
