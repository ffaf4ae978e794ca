-- The definitions that the contracts cite.
pub mod Sizes
pub mod Puts
pub mod Values
