-- The laws, one idea a file.
pub mod Levels
pub mod Rooms
pub mod Steps
pub mod Turns
pub mod Timed
pub mod Later
