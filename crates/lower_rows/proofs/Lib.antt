-- The laws, one idea a file.
pub mod Runs
pub mod Decoding
