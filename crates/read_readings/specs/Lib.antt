-- The definitions that the contracts cite, lowest layer first.
pub mod Readings
pub mod SpanNumbers
pub mod TakeReadings
