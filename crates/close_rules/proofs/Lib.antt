-- The laws, one idea a file, in the order in which they build on each other.
pub mod Inferring
pub mod Settling
pub mod RowRules
pub mod Decoding
pub mod KindNumbers
