-- The limits.
pub mod Limits
