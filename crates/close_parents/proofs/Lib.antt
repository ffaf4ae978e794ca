-- The laws, one idea a file.
pub mod Children
pub mod Linking
