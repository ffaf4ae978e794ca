-- The definitions that the theorems cite.
pub mod MoveCases
pub mod SameReadings
