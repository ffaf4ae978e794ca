-- The definitions that the contracts cite.
pub mod Writes
pub mod Writers
