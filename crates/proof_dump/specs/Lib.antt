-- The definitions that the theorems cite, lowest layer first.
pub mod DumpReadings
pub mod WriteCases
pub mod DumpCases
pub mod ReadCases
