-- The laws, one idea a file.
pub mod WorkLists
pub mod Outcomes
