-- The laws.
pub mod Filling
pub mod Reporting
