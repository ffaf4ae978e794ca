-- The laws, one idea a file.
pub mod Buffers
pub mod Sheets
