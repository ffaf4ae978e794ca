-- The definitions that the contracts cite.
pub mod Joining
pub mod Runs
