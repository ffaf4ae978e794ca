-- The laws, one idea a file.
pub mod Bits
pub mod Shifts
pub mod Counts
pub mod Tables
