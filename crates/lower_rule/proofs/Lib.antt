-- The laws, one idea a file.
pub mod InTurn
pub mod Sheets
pub mod Spelled
