-- The laws, one idea a file.
pub mod ShownLengths
pub mod Printing
pub mod Captionless
pub mod OneListing
