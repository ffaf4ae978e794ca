-- The laws, one idea a file.
pub mod StrictOrder
pub mod Sorting
pub mod NamesBefore
pub mod Inserting
pub mod Examples
