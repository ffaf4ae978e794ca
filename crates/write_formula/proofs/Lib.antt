-- The laws, one idea a file.
pub mod Parts
pub mod Ranks
pub mod Nodes
