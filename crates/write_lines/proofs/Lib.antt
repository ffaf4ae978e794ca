-- The laws, one idea a file.
pub mod Lines
pub mod Lengths
