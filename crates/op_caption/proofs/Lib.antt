-- The laws.
pub mod Outcomes
