-- The laws, one idea a file.
pub mod Lengths
pub mod Examples
