-- The laws, one idea a file.
pub mod Lengths
pub mod Signs
pub mod Counting
pub mod Answered
