-- The laws of the answers.
pub mod Outcomes
