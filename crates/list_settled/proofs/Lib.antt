-- The laws, one idea a file.
pub mod Printing
pub mod OneListing
pub mod EmptyTable
pub mod InOrder
