-- The laws, one idea a file.
pub mod Puts
pub mod Read
pub mod Helds
pub mod Keeps
pub mod Cases
